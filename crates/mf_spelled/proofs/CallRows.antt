-- By call: how its line is spelled, read and written. Each call is one row.
use Rattle.std.proofs.Common.{◌≡◌, ℕ, Bool, true, false, List, [], ◌∷◌, Option, Some, None, Ok, refl, sym, subst, ap, ◌∙◌, codes}
use Rattle.std.specs.Prelude.{if◌then◌else◌}
use Rattle.std.specs.List.{AllByRecursion}
use Rattle.std.specs.Str.{bytes_eq}
use Rattle.std.proofs.lemmas.Slice.Eq.{bytes_eq-Decides}
use Rattle.mf_rule.specs.Reading.{rule_in}
use Rattle.mf_rule.specs.declared.rule.Rule.{Rule}
use Rattle.mf_rule.proofs.ReadAsSpelled.{read_is_spelled}
use Rattle.mf_words.specs.Words.{Words, is_comment}
use Rattle.mf_calls.specs.WellFormed.{IsFormedCall}
use Rattle.mf_calls.specs.declared.script.Call.{Call}
use Rattle.mf_calls.specs.declared.script.Call.TheVariants as call
use Rattle.mf_script.specs.declared.error.ScriptFault.TheVariants.{UnknownWord, BadRule}
use Rattle.mf_script.specs.Readers.{Read, and_then, fails, by_option}
use Rattle.mf_script.specs.Parts.{entry_named, no_more, rule_number_of, rule_of}
use Rattle.mf_script.specs.Calls.{Arguments, Table, bare, one, two, three, add_rule, set_rule, ugidfw_calls, ugidfw, calls, call_in}
use Rattle.mf_script.specs.Lines.{behind_at}
use Rattle.mf_script.proofs.Yields.{Yields, done, refused, chain}
use Rattle.mf_spelling.specs.Spelling.{Piece, Word, Decimal, Rules, Pieces, SpellLine, call_pieces}
use Rattle.mf_spelling.specs.Canonical.{IsSpellableCall}
use Rattle.mf_spelling.specs.Printed.{first_word}
use Rattle.mf_spelled.proofs.Arguments.{IsArgument, SpellCall, AreSpelled, AreRead, by_pieces, bare_spelled, one_spelled, two_spelled, three_spelled, bare_back, one_back, two_back, three_back, words_onto, names, processes, words, paths, texts, modes, descriptors, rule_numbers, ports, open_modes, protocols, privileges, settings}
use Rattle.mf_spelled.proofs.Lines.{before, by_word, front, if_ok, word_read}
use Rattle.mf_spelled.proofs.Words.{number_spells}
use Rattle.mf_spelled.proofs.WordsBack.{number_back, rule_back}
use Rattle.mf_spelled.proofs.WordTexts.{is_word}
use Rattle.mf_spelled.proofs.PieceTexts.{AreOfWords}

-- The name of a call and the arguments behind it: its line has these pieces; what the reader of that name reads is spelled; and where the call is
-- formed, words that spell the arguments are read as it, and their text is words.
pub record IsRowOf (c : Call) : Type 0 where
  pub name : List ℕ
  pub arguments : Arguments
  pub behind : Pieces
  pub are : call_pieces c ≡ Word name ∷ behind
  pub found : entry_named name calls ≡ Some arguments
  pub spelled : AreSpelled (name ∷ []) arguments
  pub back : IsFormedCall c → (ws : Words) → SpellLine ws behind → AreRead arguments ws c
  pub written : IsFormedCall c → IsSpellableCall c → AreOfWords behind

-- Calls with no argument, with one, two and three, each of one word

no_argument : {name : List ℕ} (c : Call) → call_pieces c ≡ Word name ∷ [] → entry_named name calls ≡ Some (bare c) → IsRowOf c
no_argument {name = name} c is found = record {
  name = name;
  arguments = bare c;
  behind = [];
  are = is;
  found = found;
  spelled = bare_spelled (name ∷ []) c is;
  back = λ formed. bare_back c;
  written = λ formed can. tt;
}

module _ {A : Type 0} {piece : A → Piece} {first : List ℕ → Read A} {FormedA SpellableA : A → Type 0} (a : IsArgument piece first FormedA SpellableA) where
  one_argument : {name : List ℕ} (c : A → Call) (x : A) → ((x : A) → call_pieces (c x) ≡ Word name ∷ piece x ∷ []) → entry_named name calls ≡ Some (one first c)
      → (IsFormedCall (c x) → FormedA x) → (IsSpellableCall (c x) → SpellableA x) → IsRowOf (c x)
  one_argument {name = name} c x is found formed spellable = record {
    name = name;
    arguments = one first c;
    behind = piece x ∷ [];
    are = is x;
    found = found;
    spelled = one_spelled a (name ∷ []) c is;
    back = λ ok. one_back a x (formed ok) c;
    written = λ ok can. words_onto (piece x) [] (a.word x (formed ok) (spellable can)) tt;
  }

  module _ {B : Type 0} {other : B → Piece} {second : List ℕ → Read B} {FormedB SpellableB : B → Type 0} (b : IsArgument other second FormedB SpellableB) where
    two_arguments : {name : List ℕ} (c : A → B → Call) (x : A) (y : B) → ((x : A) (y : B) → call_pieces (c x y) ≡ Word name ∷ piece x ∷ other y ∷ [])
        → entry_named name calls ≡ Some (two first second c)
        → (IsFormedCall (c x y) → FormedA x × FormedB y) → (IsSpellableCall (c x y) → SpellableA x × SpellableB y) → IsRowOf (c x y)
    two_arguments {name = name} c x y is found formed spellable = record {
      name = name;
      arguments = two first second c;
      behind = piece x ∷ other y ∷ [];
      are = is x y;
      found = found;
      spelled = two_spelled a b (name ∷ []) c is;
      back = λ ok. two_back a x (formed ok).0 b y (formed ok).1 c;
      written = λ ok can.
          words_onto (piece x) (other y ∷ []) (a.word x (formed ok).0 (spellable can).0) (words_onto (other y) [] (b.word y (formed ok).1 (spellable can).1) tt);
    }

    module _ {C : Type 0} {last : C → Piece} {third : List ℕ → Read C} {FormedC SpellableC : C → Type 0} (l : IsArgument last third FormedC SpellableC) where
      three_arguments : {name : List ℕ} (c : A → B → C → Call) (x : A) (y : B) (z : C)
          → ((x : A) (y : B) (z : C) → call_pieces (c x y z) ≡ Word name ∷ piece x ∷ other y ∷ last z ∷ []) → entry_named name calls ≡ Some (three first second third c)
          → (IsFormedCall (c x y z) → FormedA x × FormedB y × FormedC z) → (IsSpellableCall (c x y z) → SpellableA x × SpellableB y × SpellableC z) → IsRowOf (c x y z)
      three_arguments {name = name} c x y z is found formed spellable = record {
        name = name;
        arguments = three first second third c;
        behind = piece x ∷ other y ∷ last z ∷ [];
        are = is x y z;
        found = found;
        spelled = three_spelled a b l (name ∷ []) c is;
        back = λ ok. three_back a x (formed ok).0 b y (formed ok).1 l z (formed ok).2 c;
        written = λ ok can.
            words_onto (piece x) (other y ∷ last z ∷ []) (a.word x (formed ok).0 (spellable can).0)
            (words_onto (other y) (last z ∷ []) (b.word y (formed ok).1 (spellable can).1) (words_onto (last z) [] (l.word z (formed ok).2 (spellable can).2) tt));
      }

-- What ugidfw(8) does, by the word behind its name

rule_spells : (ws : Words) → Yields (λ rule. SpellLine ws (Rules rule.0 ∷ [])) (rule_of ws)
unfolding rule_of
rule_spells [] = refused
rule_spells (w ∷ ws) = chain _ _ (if_ok BadRule (rule_in (w ∷ ws)) (λ rule e. read_is_spelled (w ∷ ws) rule e)) (λ rule spells. done spells)

add_spelled : AreSpelled (codes "ugidfw" ∷ codes "add" ∷ []) add_rule
unfolding add_rule
add_spelled ws = chain _ _ (rule_spells ws) (λ rule spells. done (λ none. by_pieces (codes "ugidfw" ∷ codes "add" ∷ []) ws (call.UgidfwAdd rule.0) (Rules rule.0 ∷ []) refl spells))

set_spelled : AreSpelled (codes "ugidfw" ∷ codes "set" ∷ []) set_rule
unfolding set_rule
set_spelled ws =
    chain _ _ (by_word (Decimal 249) rule_number_of (number_spells 249) ws) (λ number at. chain _ _ (rule_spells number.1) (λ rule spells. done (λ none.
    by_pieces (codes "ugidfw" ∷ codes "set" ∷ []) ws (call.UgidfwSet number.0 rule.0) (Decimal 249 number.0 ∷ Rules rule.0 ∷ []) refl (before (Decimal 249 number.0) ws number.1 (Rules rule.0 ∷ []) at spells))))

-- each reader of a table, behind its word
abbrev AllSpelled : Table → Type 0
AllSpelled table = AllByRecursion (λ (entry : List ℕ × Arguments). AreSpelled (codes "ugidfw" ∷ entry.0 ∷ []) entry.1) table

found_spelled : (name : List ℕ) (table : Table) → AllSpelled table → (ws : Words)
    → Yields (SpellCall (codes "ugidfw" ∷ name ∷ ws)) (by_option (entry_named name table) (fails UnknownWord) (λ arguments. arguments ws))
found_spelled name [] each ws = refused
found_spelled name (entry ∷ table) each ws = by_test (bytes_eq name entry.0) (bytes_eq-Decides name entry.0).0 (found_spelled name table each.1 ws) where
  by_test : (same : Bool) → (same ≡ true → name ≡ entry.0)
      → Yields (SpellCall (codes "ugidfw" ∷ name ∷ ws)) (by_option (entry_named name table) (fails UnknownWord) (λ arguments. arguments ws))
      → Yields (SpellCall (codes "ugidfw" ∷ name ∷ ws)) (by_option (if same then Some entry.1 else entry_named name table) (fails UnknownWord) (λ arguments. arguments ws))
  by_test true same further = subst (λ (name : List ℕ). Yields (SpellCall (codes "ugidfw" ∷ name ∷ ws)) (entry.1 ws)) (sym (same refl)) (each.0 ws)
  by_test false other further = further

ugidfw_all : AllSpelled ugidfw_calls
ugidfw_all = (
  bare_spelled (codes "ugidfw" ∷ codes "list" ∷ []) call.UgidfwList refl,
  (add_spelled, (set_spelled, (one_spelled rule_numbers (codes "ugidfw" ∷ codes "remove" ∷ []) call.UgidfwRemove (λ n. refl), tt))),
)

ugidfw_spelled : AreSpelled (codes "ugidfw" ∷ []) ugidfw
unfolding ugidfw call_in
ugidfw_spelled [] = refused
ugidfw_spelled (name ∷ ws) = found_spelled name ugidfw_calls ugidfw_all ws

record IsRuleRead (ws : Words) (rule : Rule) : Type 0 where
  is : rule_of ws ≡ Ok (rule, [])

rule_read : (rule : Rule) (ws : Words) → SpellLine ws (Rules rule ∷ []) → IsRuleRead ws rule
rule_read rule [] spelled = absurd spelled
rule_read rule (w ∷ ws) spelled = record { is = rule_back w ws rule spelled }

add_back : (rule : Rule) (ws : Words) → SpellLine ws (Rules rule ∷ []) → AreRead add_rule ws (call.UgidfwAdd rule)
unfolding add_rule and_then
add_back rule ws spelled = rw ((rule_read rule ws spelled).is) refl

set_back : (n : ℕ) (rule : Rule) (ws : Words) → SpellLine ws (Decimal 249 n ∷ Rules rule ∷ []) → AreRead set_rule ws (call.UgidfwSet n rule)
unfolding set_rule and_then
set_back n rule ws spelled =
    let number = word_read rule_number_of (Decimal 249 n) n tt (number_back 249 n) ws (Rules rule ∷ []) spelled in
    rw (number.is, (rule_read rule number.rest number.spelled).is) refl

ugidfw_back : (name : List ℕ) (arguments : Arguments) (pieces : Pieces) (c : Call) → entry_named name ugidfw_calls ≡ Some arguments
    → ((ws : Words) → SpellLine ws pieces → AreRead arguments ws c) → (ws : Words) → SpellLine ws (Word name ∷ pieces) → AreRead ugidfw ws c
unfolding ugidfw call_in and_then
ugidfw_back name arguments pieces c found back ws spelled =
    let f = front ws (Word name) pieces tt spelled in
    ap (λ (ws : Words). and_then (ugidfw ws) (λ read. and_then (no_more read.1) (λ u. Ok read.0))) (f.whole ∙ ap (λ w. w ∷ f.rest) f.spells)
    ∙ ap (λ (found : Option Arguments). and_then (by_option found (fails UnknownWord) (λ arguments. arguments f.rest)) (λ read. and_then (no_more read.1) (λ u. Ok read.0))) found
    ∙ back f.rest f.spelled

of_ugidfw : {name : List ℕ} (c : Call) (arguments : Arguments) (pieces : Pieces) → call_pieces c ≡ Word (codes "ugidfw") ∷ Word name ∷ pieces
    → entry_named name ugidfw_calls ≡ Some arguments → is_word name ≡ true → (IsFormedCall c → (ws : Words) → SpellLine ws pieces → AreRead arguments ws c)
    → (IsFormedCall c → AreOfWords pieces) → IsRowOf c
of_ugidfw {name = name} c arguments pieces is found word back written = record {
  name = codes "ugidfw";
  arguments = ugidfw;
  behind = Word name ∷ pieces;
  are = is;
  found = refl;
  spelled = ugidfw_spelled;
  back = λ formed. ugidfw_back name arguments pieces c found (back formed);
  written = λ formed can. (word, written formed);
}

-- The table: the arguments of each call, and what of it says that they are formed and can be spelled.
pub row_of : (c : Call) → IsRowOf c
row_of (call.Fork child) = one_argument names call.Fork child (λ x. refl) refl (λ ok. ok) (λ can. tt)
row_of call.Exit = no_argument call.Exit refl refl
row_of (call.See process) = one_argument processes call.See process (λ x. refl) refl (λ ok. ok) (λ can. tt)
row_of (call.Signal process) = one_argument processes call.Signal process (λ x. refl) refl (λ ok. ok) (λ can. tt)
row_of (call.Debug process) = one_argument processes call.Debug process (λ x. refl) refl (λ ok. ok) (λ can. tt)
row_of (call.Sched process) = one_argument processes call.Sched process (λ x. refl) refl (λ ok. ok) (λ can. tt)
row_of (call.Priv p) = one_argument privileges call.Priv p (λ x. refl) refl (λ ok. tt) (λ can. tt)
row_of call.Getpmac = no_argument call.Getpmac refl refl
row_of (call.Setpmac label) = one_argument words call.Setpmac label (λ x. refl) refl (λ ok. ok) (λ can. tt)
row_of (call.Exec p) = one_argument paths call.Exec p (λ x. refl) refl (λ ok. ok) (λ can. tt)
row_of (call.Create p) = one_argument paths call.Create p (λ x. refl) refl (λ ok. ok) (λ can. tt)
row_of (call.Mkdir p) = one_argument paths call.Mkdir p (λ x. refl) refl (λ ok. ok) (λ can. tt)
row_of (call.Read p) = one_argument paths call.Read p (λ x. refl) refl (λ ok. ok) (λ can. tt)
row_of (call.Write p text) = two_arguments paths texts call.Write p text (λ x y. refl) refl (λ ok. ok) (λ can. (tt, can))
row_of (call.Stat p) = one_argument paths call.Stat p (λ x. refl) refl (λ ok. ok) (λ can. tt)
row_of (call.Getfmac p) = one_argument paths call.Getfmac p (λ x. refl) refl (λ ok. ok) (λ can. tt)
row_of (call.Setfmac label p) = two_arguments words paths call.Setfmac label p (λ x y. refl) refl (λ ok. ok) (λ can. (tt, tt))
row_of (call.Readdir p) = one_argument paths call.Readdir p (λ x. refl) refl (λ ok. ok) (λ can. tt)
row_of (call.Chmod p mode) = two_arguments paths modes call.Chmod p mode (λ x y. refl) refl (λ ok. ok) (λ can. (tt, tt))
row_of (call.Unlink p) = one_argument paths call.Unlink p (λ x. refl) refl (λ ok. ok) (λ can. tt)
row_of (call.OpenFd p read write) = two_arguments paths open_modes (λ p mode. call.OpenFd p mode.0 mode.1) p (read, write) (λ x y. refl) refl (λ ok. ok) (λ can. (tt, tt))
row_of (call.Fread n) = one_argument descriptors call.Fread n (λ x. refl) refl (λ ok. ok) (λ can. tt)
row_of (call.Fwrite n text) = two_arguments descriptors texts call.Fwrite n text (λ x y. refl) refl (λ ok. ok) (λ can. (tt, can))
row_of (call.Close n) = one_argument descriptors call.Close n (λ x. refl) refl (λ ok. ok) (λ can. tt)
row_of (call.Pipe name) = one_argument names call.Pipe name (λ x. refl) refl (λ ok. ok) (λ can. tt)
row_of (call.Socket name) = one_argument names call.Socket name (λ x. refl) refl (λ ok. ok) (λ can. tt)
row_of (call.Pread name) = one_argument names call.Pread name (λ x. refl) refl (λ ok. ok) (λ can. tt)
row_of (call.Pwrite name text) = two_arguments names texts call.Pwrite name text (λ x y. refl) refl (λ ok. ok) (λ can. (tt, can))
row_of (call.Pstat name) = one_argument names call.Pstat name (λ x. refl) refl (λ ok. ok) (λ can. tt)
row_of (call.Setpipemac label name) = two_arguments words names call.Setpipemac label name (λ x y. refl) refl (λ ok. ok) (λ can. (tt, tt))
row_of (call.Send from to text) = three_arguments names names texts call.Send from to text (λ x y z. refl) refl (λ ok. ok) (λ can. (tt, tt, can))
row_of (call.Recv name) = one_argument names call.Recv name (λ x. refl) refl (λ ok. ok) (λ can. tt)
row_of (call.Seesock name) = one_argument names call.Seesock name (λ x. refl) refl (λ ok. ok) (λ can. tt)
row_of (call.Setsockmac label name) = two_arguments words names call.Setsockmac label name (λ x y. refl) refl (λ ok. ok) (λ can. (tt, tt))
row_of (call.Bind name tcp port) = three_arguments names protocols ports call.Bind name tcp port (λ x y z. refl) refl (λ ok. (ok.0, tt, ok.1)) (λ can. (tt, tt, tt))
row_of call.Kldstat = no_argument call.Kldstat refl refl
row_of (call.Kldload name) = one_argument words call.Kldload name (λ x. refl) refl (λ ok. ok) (λ can. tt)
row_of (call.Kldunload name) = one_argument words call.Kldunload name (λ x. refl) refl (λ ok. ok) (λ can. tt)
row_of (call.Sysctl name value) = one_argument settings (λ sides. call.Sysctl sides.0 sides.1) (name, value) (λ x. refl) refl (λ ok. ok) (λ can. can)
row_of call.UgidfwList = of_ugidfw call.UgidfwList (bare call.UgidfwList) [] refl refl refl (λ ok. bare_back call.UgidfwList) (λ ok. tt)
row_of (call.UgidfwAdd rule) = of_ugidfw (call.UgidfwAdd rule) add_rule (Rules rule ∷ []) refl refl refl (λ ok. add_back rule) (λ ok. ok)
row_of (call.UgidfwSet n rule) =
    of_ugidfw (call.UgidfwSet n rule) set_rule (Decimal 249 n ∷ Rules rule ∷ []) refl refl refl (λ ok. set_back n rule) (λ ok. (rule_numbers.word n ok.0 tt, ok.1))
row_of (call.UgidfwRemove n) =
    of_ugidfw (call.UgidfwRemove n) (one rule_number_of call.UgidfwRemove) (Decimal 249 n ∷ []) refl refl refl
    (λ ok. one_back rule_numbers n ok call.UgidfwRemove) (λ ok. (rule_numbers.word n ok tt, tt))

-- The name of a call

-- it is a word, and neither ends a task nor begins with `@` or `#`
pub record IsOpening (w : List ℕ) : Type 0 where
  pub word : is_word w ≡ true
  pub no_child : behind_at w ≡ None
  pub no_end : bytes_eq w (codes "end") ≡ false
  pub no_comment : is_comment w ≡ false

named : (c : Call) → IsOpening (first_word (call_pieces c))
named call.Exit = record { word = refl; no_child = refl; no_end = refl; no_comment = refl }
named other = record { word = refl; no_child = refl; no_end = refl; no_comment = refl }

pub opening : (c : Call) → IsOpening (row_of c).name
opening c = subst IsOpening (ap first_word (row_of c).are) (named c)
