-- The beginning of some bytes, which is this model's own.
use Rattle.std.specs.Prelude.{ℕ, List, take, length}
use Rattle.mf_objects.specs.declared.head.Head.{Head}
use Rattle.mf_objects.specs.declared.limits.TheConstants.{HEAD_BYTES}

-- how many bytes there are, and the first 64 of them
unfoldable pub head_of : List ℕ → Head
head_of bytes = record { len = length bytes; first = take HEAD_BYTES bytes }
