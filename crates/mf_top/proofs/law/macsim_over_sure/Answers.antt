use Rattle.std.proofs.Common.{map, string_bytes}
use Rattle.mf_io.specs.Sure.{seen_source, seen_sink}
use Rattle.mf_top.proofs.NoFaults.{no_fault, never_rises}
use Rattle.mf_top.proofs.law.macsim_over_sure.Goals as goal

pub returns : goal.returns
returns g c =
    let cause = c.macsim.ensures.cause in
    let source = seen_source c.args.source.now c.macsim.new.source in
    let sink = seen_sink c.args.sink.now c.macsim.new.sink in
    let both = no_fault (map string_bytes c.args.words.now) source sink cause.0 _ never_rises never_rises cause.1 cause.2 in
    record { cause = cause; no_read_fault = both.0; no_write_fault = both.1 }
