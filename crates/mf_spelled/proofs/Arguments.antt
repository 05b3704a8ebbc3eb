-- The arguments of calls: words that are read as them spell their pieces, words that spell them are read, and their text is a word.
use Rattle.std.proofs.Common.{◌≡◌, ◌≢◌, ℕ, ◌<◌, ◌≤◌, ◌||◌, Bool, true, false, List, [], ◌∷◌, ◌++◌, map, Ok, All, refl, sym, subst, ap, arith, lit<}
use Rattle.std.specs.Str.{byte}
use Rattle.mf_errno.specs.Privilege.{privilege_text}
use Rattle.mf_errno.specs.declared.privilege.Priv.{Priv}
use Rattle.mf_errno.specs.declared.privilege.Priv.TheVariants as privs
use Rattle.mf_rule.specs.declared.rule_list.TheConstants.{MAX_RULES}
use Rattle.mf_rule.specs.declared.ports.TheConstants.{LAST_PORT}
use Rattle.mf_words.specs.Words.{Words}
use Rattle.mf_names.specs.declared.limits.TheConstants.{MOST_DESCRIPTORS, SCRIPT_LIMIT}
use Rattle.mf_calls.specs.Names.{is_process_name}
use Rattle.mf_calls.specs.WellFormed.{IsName, IsPath, IsPrintable, IsText, IsWord}
use Rattle.mf_calls.specs.declared.limits.TheConstants.{MODE_LIMIT}
use Rattle.mf_calls.specs.declared.script.Call.{Call}
use Rattle.mf_script.specs.Readers.{Read, and_then}
use Rattle.mf_script.specs.Parts.{no_more, any_word, simple_name_of, process_of, path_of, mode_of, open_mode_of, protocol_of, port_of, text_of, privilege_of, rule_number_of, descriptor_of, sides_of}
use Rattle.mf_script.specs.Calls.{Arguments, bare, one, two, three}
use Rattle.mf_script.proofs.Yields.{Yields, done, chain}
use Rattle.mf_spelling.specs.Spelling.{Piece, Word, Decimal, Octal, Text, Setting, Rules, Pieces, path, SpellLine, open_mode, protocol, call_pieces}
use Rattle.mf_spelled.proofs.Lines.{IsSingle, Reads, headed, before, at_end, by_word, none, word_read}
use Rattle.mf_spelled.proofs.Words.{any_spells, name_spells, process_spells, number_spells, open_mode_spells, protocol_spells, mode_spells, text_spells, sides_spell, privilege_spells, path_spells}
use Rattle.mf_spelled.proofs.WordsBack.{IsRead, any_back, name_back, process_back, number_back, open_mode_back, protocol_back, mode_back, text_back, sides_back, privilege_back, path_back}
use Rattle.mf_spelled.proofs.WordTexts.{is_word}
use Rattle.mf_spelled.proofs.NameTexts.{name_word, path_word, process_word, any_word as own_word}
use Rattle.mf_spelled.proofs.PieceTexts.{IsOfWord, AreOfWords}

-- an argument of one word: its piece, its reader, and what a call that is formed, and one that can be spelled, says of it
pub record IsArgument {A : Type 0} (piece : A → Piece) (read : List ℕ → Read A) (Formed Spellable : A → Type 0) : Type 0 where
  pub single : (x : A) → IsSingle (piece x)
  pub spells : Reads piece read
  pub back : (x : A) → Formed x → IsRead read (piece x) x
  pub word : (x : A) → Formed x → Spellable x → IsOfWord (piece x)

abbrev Always : {A : Type 0} → A → Type 0
Always x = Unit {0}

pub names : IsArgument Word simple_name_of IsName Always
names = record { single = λ name. tt; spells = name_spells; back = name_back; word = λ name formed can. name_word name formed }

pub processes : IsArgument Word process_of (λ name. is_process_name name ≡ true) Always
processes = record { single = λ name. tt; spells = process_spells; back = process_back; word = λ name formed can. process_word name formed }

pub words : IsArgument Word any_word IsWord Always
words = record { single = λ w. tt; spells = any_spells; back = λ w formed. any_back w; word = λ w formed can. own_word w formed }

pub paths : IsArgument path path_of IsPath Always
paths = record { single = λ p. tt; spells = path_spells; back = path_back; word = λ p formed can. path_word p formed }

pub texts : IsArgument Text text_of (IsText SCRIPT_LIMIT) (λ text. text ≢ [])
texts = record { single = λ text. tt; spells = text_spells; back = λ text formed. text_back text; word = λ text formed can. (can, formed.each) }

pub modes : IsArgument Octal mode_of (λ mode. mode ≤ MODE_LIMIT) Always
modes = record { single = λ mode. tt; spells = mode_spells; back = λ mode formed. mode_back mode; word = λ mode formed can. formed }

pub descriptors : IsArgument (Decimal 15) descriptor_of (λ n. n < MOST_DESCRIPTORS) Always
descriptors = record { single = λ n. tt; spells = number_spells 15; back = λ n formed. number_back 15 n; word = λ n formed can. (lit< tt, omega (arith, formed)) }

pub rule_numbers : IsArgument (Decimal 249) rule_number_of (λ n. n < MAX_RULES) Always
rule_numbers = record { single = λ n. tt; spells = number_spells 249; back = λ n formed. number_back 249 n; word = λ n formed can. (lit< tt, omega (arith, formed)) }

pub ports : IsArgument (Decimal 65535) port_of (λ port. port ≤ LAST_PORT) Always
ports = record { single = λ port. tt; spells = number_spells 65535; back = λ port formed. number_back 65535 port; word = λ port formed can. (lit< tt, formed) }

open_mode_word : (read write : Bool) → (read || write) ≡ true → is_word (open_mode read write) ≡ true
open_mode_word true true some = refl
open_mode_word true false some = refl
open_mode_word false true some = refl
open_mode_word false false some = absurd cc

pub open_modes : IsArgument (λ mode. Word (open_mode mode.0 mode.1)) open_mode_of (λ mode. (mode.0 || mode.1) ≡ true) Always
open_modes = record {
  single = λ mode. tt;
  spells = open_mode_spells;
  back = λ mode formed. open_mode_back mode.0 mode.1 formed;
  word = λ mode formed can. open_mode_word mode.0 mode.1 formed;
}

protocol_word : (tcp : Bool) → is_word (protocol tcp) ≡ true
protocol_word true = refl
protocol_word false = refl

pub protocols : IsArgument (λ tcp. Word (protocol tcp)) protocol_of Always Always
protocols = record { single = λ tcp. tt; spells = protocol_spells; back = λ tcp formed. protocol_back tcp; word = λ tcp formed can. protocol_word tcp }

privilege_word : (p : Priv) → is_word (privilege_text p) ≡ true
privilege_word privs.KldLoad = refl
privilege_word privs.KldUnload = refl
privilege_word privs.MacPartition = refl
privilege_word privs.SchedRtprio = refl
privilege_word privs.SchedIdprio = refl

pub privileges : IsArgument (λ p. Word (privilege_text p)) privilege_of Always Always
privileges = record { single = λ p. tt; spells = privilege_spells; back = λ p formed. privilege_back p; word = λ p formed can. privilege_word p }

pub settings : IsArgument (λ sides. Setting sides.0 sides.1) sides_of (λ sides. IsPrintable sides.0 × IsPrintable sides.1) (λ sides. All (λ b. b ≢ byte "=") sides.0)
settings = record { single = λ sides. tt; spells = sides_spell; back = λ sides formed. sides_back sides.0 sides.1; word = λ sides formed can. (formed.0, formed.1, can) }

-- What is read spells

-- the words of a line, and the call with what is left: where nothing is left, they spell the call
abbrev pub SpellCall : Words → (Call × Words) → Type 0
SpellCall ws read = read.1 ≡ [] → SpellLine ws (call_pieces read.0)

-- a reader of the arguments behind these words
abbrev pub AreSpelled : Words → Arguments → Type 0
AreSpelled front arguments = (ws : Words) → Yields (SpellCall (front ++ ws)) (arguments ws)

-- the call has these pieces
pub by_pieces : (front ws : Words) (c : Call) (pieces : Pieces) → call_pieces c ≡ map Word front ++ pieces → SpellLine ws pieces → SpellLine (front ++ ws) (call_pieces c)
by_pieces front ws c pieces is spelled = subst (SpellLine (front ++ ws)) (sym is) (headed front ws pieces spelled)

pub bare_spelled : (front : Words) (c : Call) → call_pieces c ≡ map Word front ++ [] → AreSpelled front (bare c)
bare_spelled front c is ws = done (λ none. by_pieces front ws c [] is (at_end ws none))

module _ {A : Type 0} {piece : A → Piece} {first : List ℕ → Read A} {FormedA SpellableA : A → Type 0} (a : IsArgument piece first FormedA SpellableA) where
  pub one_spelled : (front : Words) (c : A → Call) → ((x : A) → call_pieces (c x) ≡ map Word front ++ piece x ∷ []) → AreSpelled front (one first c)
  one_spelled front c is ws = chain _ _ (by_word piece first a.spells ws) (λ x at. done (λ none.
      by_pieces front ws (c x.0) (piece x.0 ∷ []) (is x.0) (before (piece x.0) ws x.1 [] at (at_end x.1 none))))

  module _ {B : Type 0} {other : B → Piece} {second : List ℕ → Read B} {FormedB SpellableB : B → Type 0} (b : IsArgument other second FormedB SpellableB) where
    pub two_spelled : (front : Words) (c : A → B → Call) → ((x : A) (y : B) → call_pieces (c x y) ≡ map Word front ++ piece x ∷ other y ∷ []) → AreSpelled front (two first second c)
    two_spelled front c is ws =
        chain _ _ (by_word piece first a.spells ws) (λ x at. chain _ _ (by_word other second b.spells x.1) (λ y next. done (λ none.
        by_pieces front ws (c x.0 y.0) (piece x.0 ∷ other y.0 ∷ []) (is x.0 y.0) (before (piece x.0) ws x.1 (other y.0 ∷ []) at (before (other y.0) x.1 y.1 [] next (at_end y.1 none))))))

    module _ {C : Type 0} {last : C → Piece} {third : List ℕ → Read C} {FormedC SpellableC : C → Type 0} (l : IsArgument last third FormedC SpellableC) where
      pub three_spelled : (front : Words) (c : A → B → C → Call) → ((x : A) (y : B) (z : C) → call_pieces (c x y z) ≡ map Word front ++ piece x ∷ other y ∷ last z ∷ [])
          → AreSpelled front (three first second third c)
      three_spelled front c is ws =
          chain _ _ (by_word piece first a.spells ws) (λ x at.
          chain _ _ (by_word other second b.spells x.1) (λ y next.
          chain _ _ (by_word last third l.spells y.1) (λ z behind. done (λ none.
          by_pieces front ws (c x.0 y.0 z.0) (piece x.0 ∷ other y.0 ∷ last z.0 ∷ []) (is x.0 y.0 z.0)
          (before (piece x.0) ws x.1 (other y.0 ∷ last z.0 ∷ []) at (before (other y.0) x.1 y.1 (last z.0 ∷ []) next (before (last z.0) y.1 z.1 [] behind (at_end z.1 none))))))))

-- What spells is read

-- arguments that are read to the end of the line as that call
abbrev pub AreRead : Arguments → Words → Call → Type 0
AreRead arguments ws c = (and_then (arguments ws) (λ read. and_then (no_more read.1) (λ u. Ok read.0))) ≡ Ok c

-- a call and its end
ends_call : (c : Call) (rest : Words) → SpellLine rest [] → (and_then (no_more rest) (λ u. Ok c)) ≡ Ok c
unfolding and_then
ends_call c rest spelled = ap (λ (ws : Words). and_then (no_more ws) (λ u. Ok c)) (none rest spelled)

pub bare_back : (c : Call) (ws : Words) → SpellLine ws [] → AreRead (bare c) ws c
unfolding and_then
bare_back c ws spelled = ends_call c ws spelled

module _ {A : Type 0} {piece : A → Piece} {first : List ℕ → Read A} {FormedA SpellableA : A → Type 0} (a : IsArgument piece first FormedA SpellableA) (x : A) (x_formed : FormedA x) where
  pub one_back : (c : A → Call) (ws : Words) → SpellLine ws (piece x ∷ []) → AreRead (one first c) ws (c x)
  unfolding and_then
  one_back c ws spelled =
      let got = word_read first (piece x) x (a.single x) (a.back x x_formed) ws [] spelled in
      rw (got.is) (ends_call (c x) got.rest got.spelled)

  module _ {B : Type 0} {other : B → Piece} {second : List ℕ → Read B} {FormedB SpellableB : B → Type 0} (b : IsArgument other second FormedB SpellableB) (y : B) (y_formed : FormedB y) where
    pub two_back : (c : A → B → Call) (ws : Words) → SpellLine ws (piece x ∷ other y ∷ []) → AreRead (two first second c) ws (c x y)
    unfolding and_then
    two_back c ws spelled =
        let got = word_read first (piece x) x (a.single x) (a.back x x_formed) ws (other y ∷ []) spelled in
        let next = word_read second (other y) y (b.single y) (b.back y y_formed) got.rest [] got.spelled in
        rw (got.is, next.is) (ends_call (c x y) next.rest next.spelled)

    module _ {C : Type 0} {last : C → Piece} {third : List ℕ → Read C} {FormedC SpellableC : C → Type 0} (l : IsArgument last third FormedC SpellableC) (z : C) (z_formed : FormedC z) where
      pub three_back : (c : A → B → C → Call) (ws : Words) → SpellLine ws (piece x ∷ other y ∷ last z ∷ []) → AreRead (three first second third c) ws (c x y z)
      unfolding and_then
      three_back c ws spelled =
          let got = word_read first (piece x) x (a.single x) (a.back x x_formed) ws (other y ∷ last z ∷ []) spelled in
          let next = word_read second (other y) y (b.single y) (b.back y y_formed) got.rest (last z ∷ []) got.spelled in
          let behind = word_read third (last z) z (l.single z) (l.back z z_formed) next.rest [] next.spelled in
          rw (got.is, next.is, behind.is) (ends_call (c x y z) behind.rest behind.spelled)

-- What is written is words

pub words_onto : (piece : Piece) (pieces : Pieces) → IsOfWord piece → AreOfWords pieces → AreOfWords (piece ∷ pieces)
words_onto (Rules r) pieces is rest = absurd is
words_onto other pieces is rest = (is, rest)
