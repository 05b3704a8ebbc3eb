-- The words of a line one by one, each with its fault, as the table of words in docs/MANUAL.md (THE SCRIPT) has them. A reader takes words
-- from the front, and returns what it read and the words after it.
use Rattle.std.specs.Prelude.{ℕ, ◌-◌, Bool, true, false, ◌&&◌, ◌==◌, nat_lt, if◌then◌else◌, List, [], ◌∷◌, ◌++◌, length, map, Option, Some, None, Ok, codes}
use Rattle.std.specs.Str.{byte, bytes_eq}
use Rattle.mf_errno.specs.Privilege.{privilege_named}
use Rattle.mf_errno.specs.declared.privilege.Priv.{Priv}
use Rattle.mf_text.specs.Number.{number_in}
use Rattle.mf_text.specs.Escape.{bytes_of}
use Rattle.mf_labeltext.specs.Reading.{cut, parts}
use Rattle.mf_names.specs.declared.limits.TheConstants.{MOST_DESCRIPTORS, PATH_LIMIT}
use Rattle.mf_cred.specs.declared.cred.TheConstants.{MOST_GROUPS}
use Rattle.mf_rule.specs.declared.rule.Rule.{Rule}
use Rattle.mf_rule.specs.declared.rule_list.TheConstants.{MAX_RULES}
use Rattle.mf_rule.specs.declared.ports.TheConstants.{LAST_PORT}
use Rattle.mf_rule.specs.Reading.{rule_in}
use Rattle.mf_words.specs.Words.{Words}
use Rattle.mf_calls.specs.declared.limits.TheConstants.{UID_MAX, MODE_LIMIT}
use Rattle.mf_calls.specs.Names.{is_name, is_process_name, is_component}
use Rattle.mf_spelling.specs.Spelling.{open_mode, protocol}
use Rattle.mf_script.specs.declared.error.ScriptFault.TheVariants.{UnknownWord, Missing, Extra, BadNumber, BadRule, BadPath, BadText}
use Rattle.mf_script.specs.Readers.{Read, ◌>>=◌, fails, unless, or_fault, by_option}

-- the next word, read by a function of it
abbrev pub word_by : {A : Type 0} → (List ℕ → Read A) → Words → Read (A × Words)
word_by read [] = fails Missing
word_by read (w ∷ ws) = read w >>= λ x. Ok (x, ws)

-- the next word, which must be that one
abbrev pub fixed : List ℕ → Words → Read Words
fixed text [] = fails Missing
fixed text (w ∷ ws) = unless UnknownWord (bytes_eq w text) >>= λ u. Ok ws

-- the word that says what comes, and the word behind it
unfoldable pub field : {A : Type 0} → List ℕ → (List ℕ → Read A) → Words → Read (A × Words)
field text read ws = fixed text ws >>= word_by read

-- the end of the line
abbrev pub no_more : Words → Read (Unit {0})
no_more [] = Ok tt
no_more (w ∷ ws) = fails Extra

-- what a table has under a word
abbrev pub entry_named : {A : Type 0} → List ℕ → List (List ℕ × A) → Option A
entry_named w [] = None
entry_named w (entry ∷ table) = if bytes_eq w entry.0 then Some entry.1 else entry_named w table

-- what a table has under a word, which must be one of its words
abbrev pub one_of : {A B : Type 0} → List (List ℕ × A) → List ℕ → (A → Read B) → Read B
one_of table w more = by_option (entry_named w table) (fails UnknownWord) more

-- Single words

-- any word, as it stands there
unfoldable pub any_word : List ℕ → Read (List ℕ)
any_word w = Ok w

-- a decimal number of at most that
unfoldable pub number_to : ℕ → List ℕ → Read ℕ
number_to most w = or_fault BadNumber (number_in 10 0 most w)

-- a uid or gid: a number of 32 bits
abbrev pub number_of : List ℕ → Read ℕ
number_of = number_to UID_MAX

-- the number of a rule of mac_bsdextended(4)
abbrev pub rule_number_of : List ℕ → Read ℕ
rule_number_of = number_to (MAX_RULES - 1)

-- the number of a descriptor
abbrev pub descriptor_of : List ℕ → Read ℕ
descriptor_of = number_to (MOST_DESCRIPTORS - 1)

-- a file mode: an octal number up to 7777
unfoldable pub mode_of : List ℕ → Read ℕ
mode_of w = or_fault BadNumber (number_in 8 0 MODE_LIMIT w)

-- a name of a task, a child, a pipe or a socket
unfoldable pub simple_name_of : List ℕ → Read (List ℕ)
simple_name_of w = unless BadPath (is_name w) >>= λ u. Ok w

-- the full name of a process
unfoldable pub process_of : List ℕ → Read (List ℕ)
process_of w = unless BadPath (is_process_name w) >>= λ u. Ok w

-- the name of a privilege
unfoldable pub privilege_of : List ℕ → Read Priv
privilege_of w = by_option (privilege_named w) (fails UnknownWord) Ok

-- the kind of a file: whether it is a directory
unfoldable pub is_directory_of : List ℕ → Read Bool
is_directory_of w = one_of ((codes "reg", false) ∷ (codes "dir", true) ∷ []) w Ok

abbrev pub open_modes : List (List ℕ × (Bool × Bool))
open_modes = map (λ mode. (open_mode mode.0 mode.1, mode)) ((true, false) ∷ (false, true) ∷ (true, true) ∷ [])

-- how a file is opened: whether for reading, and whether for writing
unfoldable pub open_mode_of : List ℕ → Read (Bool × Bool)
open_mode_of w = one_of open_modes w Ok

abbrev pub protocols : List (List ℕ × Bool)
protocols = map (λ tcp. (protocol tcp, tcp)) (true ∷ false ∷ [])

-- the protocol of a port: whether it is TCP
unfoldable pub protocol_of : List ℕ → Read Bool
protocol_of w = one_of protocols w Ok

-- a port
abbrev pub port_of : List ℕ → Read ℕ
port_of = number_to LAST_PORT

-- the bytes that a text with escapes stands for
unfoldable pub text_of : List ℕ → Read (List ℕ)
text_of w = or_fault BadText (bytes_of w)

-- a word of sysctl(8): what stands before its first `=`, and what stands behind it; either may be empty
unfoldable pub sides_of : List ℕ → Read (List ℕ × List ℕ)
sides_of w = by_option (cut (byte "=") w) (fails Missing) Ok

-- The rest of the line

-- a rule of ugidfw(8): one word or more, and no word is left behind it
unfoldable pub rule_of : Words → Read (Rule × Words)
rule_of [] = fails Missing
rule_of (w ∷ ws) = or_fault BadRule (rule_in (w ∷ ws)) >>= λ rule. Ok (rule, [])

-- Lists in one word

-- the items so far, and those that the texts add to them
unfoldable pub all_added : {A : Type 0} → (List A → List ℕ → Read (List A)) → List A → List (List ℕ) → Read (List A)
all_added add items [] = Ok items
all_added add items (w ∷ ws) = add items w >>= λ more. all_added add more ws

-- one group more, where there is room for it
unfoldable pub with_group : List ℕ → List ℕ → Read (List ℕ)
with_group groups w = do
  u ← unless BadNumber (nat_lt (length groups) MOST_GROUPS)
  group ← number_of w
  Ok (groups ++ group ∷ [])

-- numbers with a comma between each two
unfoldable pub groups_of : List ℕ → Read (List ℕ)
groups_of w = all_added with_group [] (parts (byte ",") w)

-- one component more, where there is room for it
unfoldable pub with_component : List (List ℕ) → List ℕ → Read (List (List ℕ))
with_component path w = unless BadPath (nat_lt (length path) PATH_LIMIT && is_component w) >>= λ u. Ok (path ++ w ∷ [])

-- components with a slash between each two
unfoldable pub components_of : List ℕ → Read (List (List ℕ))
components_of w = all_added with_component [] (parts (byte "/") w)

-- what stands behind the first slash of a path: nothing in that of the root directory
unfoldable pub behind_root : List ℕ → Read (List (List ℕ))
behind_root [] = Ok []
behind_root (b ∷ w) = components_of (b ∷ w)

-- `/`, or a slash before each component
unfoldable pub path_of : List ℕ → Read (List (List ℕ))
path_of [] = fails BadPath
path_of (b ∷ w) = unless BadPath (b == byte "/") >>= λ u. behind_root w
