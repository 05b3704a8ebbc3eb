use Rattle.std.proofs.Common.{◌≡◌, ◌++◌, take, string_bytes}
use Rattle.mf_spelling.specs.Spelling.{file_pieces}
use Rattle.mf_spelling.specs.Canonical.{lines_text}
use Rattle.mf_spelling.proofs.printing.push_files.Given as goal

abbrev pub invariant-loop-file : goal.invariant-loop-file
invariant-loop-file l = string_bytes l.out ≡ string_bytes l.fn.out ++ lines_text file_pieces (take l.file-index l.files)
