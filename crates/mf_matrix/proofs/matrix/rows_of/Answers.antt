use Rattle.std.proofs.Common.{ap, ◌∙◌, map}
use Rattle.rayon.proofs.ListFacts.{IfOk-then}
use Rattle.rayon.proofs.ToStd.{slice-map}
use Rattle.mf_matrix.specs.Matrix.{row_of}
use Rattle.mf_matrix.proofs.matrix.rows_of.Goals as goal

pub returns : goal.returns
returns g c =
    let slice = ap (λ it. it.slice.now) c.map.ensures.base ∙ c.par_iter.ensures in
    let given = ap (λ f. f.0.now) c.map.ensures.f in
    IfOk-then c.collect.result _ _ c.collect.ensures (λ v h.
    h.2
    ∙ slice-map h.1.0 c.args.pairs.now (h.1.1 ∙ slice) (row_of c.map.result.f.0.now) h.0 h.1.2
    ∙ ap (λ listed. map (row_of listed) c.args.pairs.now) given)
