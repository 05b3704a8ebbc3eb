use Rattle.mf_rule.proofs.RoundTrips.{text_reads}
use Rattle.mf_rule.proofs.law.canonical_text_stands_for_its_rule.Goals as goal

pub returns : goal.returns
returns c = text_reads
