use Rattle.mf_errno.proofs.Errors as errors
use Rattle.mf_errno.proofs.laws.numbers_differ.Goals as goal

pub returns : goal.returns
returns c = errors.numbers_differ
