use Rattle.std.proofs.Common.{◌≡◌, ◌++◌, ◌∷◌, [], List, refl, ap, ◌∙◌}
use denote.Param.Object.{read_made, Made}
use Rattle.mf_biba.specs.declared.biba.Biba.{Biba}
use Rattle.mf_bsdextended.specs.declared.bsdextended.Bsdextended.{Bsdextended}
use Rattle.mf_policy.specs.declared.spec.Spec.{Spec}
use Rattle.mf_policy.specs.declared.spec.Spec.TheVariants as means
use Rattle.mf_ports.specs.declared.portacl.Portacl.{Portacl}
use Rattle.mf_ports.specs.declared.seeotheruids.Seeotheruids.{Seeotheruids}
use Rattle.mf_top.proofs.Modules.{are_all, behind, one_of_each}
use Rattle.mf_scenarios.proofs.tests.run_over.OwnLists.{own-1}
use Rattle.mf_scenarios.proofs.tests.run_over.Goals as goal

-- what a box means that was made of a policy
made_spec : {i at : own-1.I} → i ≡ at → {y : (own-1.entry i).0.Denot} {x : (own-1.entry at).0.Denot}
    → Made (λ j. (own-1.entry j).0.coded.code) (own-1.entry at).0.coded.code at i y x → (own-1.entry i).1.spec y ≡ (own-1.entry at).1.spec x
made_spec {i} {at} same {y} {x} made = read_made own-1 (own-1.entry at) at refl Spec (λ j v. j.1.spec v) i y x made

-- what each box of a policy without settings means
always : {i at : own-1.I} → i ≡ at → (y : (own-1.entry i).0.Denot) {m : Spec} → ((x : (own-1.entry at).0.Denot) → (own-1.entry at).1.spec x ≡ m)
    → (own-1.entry i).1.spec y ≡ m
always {i} {at} same y {m} each = behind (λ v. (own-1.entry v).0.Denot) (λ v x. (own-1.entry v).1.spec x) i at y m same each

also : {X : Type 0} (x : X) {before held longer : List X} → longer ≡ held ++ x ∷ [] → held ≡ before → longer ≡ before ++ x ∷ []
also {X} x is same = is ∙ ap (λ (xs : List X). xs ++ x ∷ []) same

pub over-requires-clause-modules : goal.over-requires-clause-modules
over-requires-clause-modules g c κs within =
    let first = one_of_each (λ p. (own-1.entry p.vtable).1.spec p.value) _ _ c.new-list.ensures.items (
      _,
      _,
      also _ c.in_ok-list-2.ensures c.in_ok-list.ensures.list,
      made_spec c.into_dyn_box.ensures.0 c.into_dyn_box.ensures.1 ∙ (ap (λ (p : Biba). means.Biba p.revocation) c.in_ok-list.ensures.policy ∙ c.new.ensures),
      (
        _,
        _,
        also _ c.in_ok-list-4.ensures c.in_ok-list-3.ensures.list,
        always c.into_dyn_box-2.ensures.0 _ (λ y. refl),
        (
          _,
          _,
          also _ c.in_ok-list-6.ensures c.in_ok-list-5.ensures.list,
          always c.into_dyn_box-3.ensures.0 _ (λ y. refl),
          (
            _,
            _,
            also _ c.in_ok-list-8.ensures c.in_ok-list-7.ensures.list,
            always c.into_dyn_box-4.ensures.0 _ (λ y. refl),
            (
              _,
              _,
              also _ c.in_ok-list-10.ensures c.in_ok-list-9.ensures.list,
              made_spec c.into_dyn_box-5.ensures.0 c.into_dyn_box-5.ensures.1 ∙ (ap (λ (p : Bsdextended). means.Bsdextended p.rules p.first_match) c.in_ok-list-9.ensures.policy ∙ c.in_ok-new.ensures),
              (
                _,
                _,
                also _ c.in_ok-list-12.ensures c.in_ok-list-11.ensures.list,
                always c.into_dyn_box-6.ensures.0 _ (λ y. refl),
                (
                  _,
                  _,
                  also _ c.in_ok-list-14.ensures c.in_ok-list-13.ensures.list,
                  made_spec c.into_dyn_box-7.ensures.0 c.into_dyn_box-7.ensures.1 ∙ (ap (λ (p : Seeotheruids). means.Seeotheruids p.primarygroup p.specific p.gid p.suser) c.in_ok-list-13.ensures.policy ∙ c.new-7.ensures),
                  (
                    _,
                    _,
                    also _ c.in_ok-list-16.ensures c.in_ok-list-15.ensures.list,
                    made_spec c.into_dyn_box-8.ensures.0 c.into_dyn_box-8.ensures.1 ∙ (ap (λ (p : Portacl). means.Portacl p.rules p.port_high p.suser p.autoport) c.in_ok-list-15.ensures.policy ∙ c.new-8.ensures),
                    refl,
                  ),
                ),
              ),
            ),
          ),
        ),
      ),
    ) in
    (are_all _ _ first, first.fresh)
