-- The calls and lines of tasks that the grammar reads are well formed, and a call has the name that it was read by.
use Rattle.std.proofs.Common.{◌≡◌, ℕ, ◌<◌, ◌≤◌, ◌||◌, Bool, true, false, List, [], ◌∷◌, Some, refl, sym, subst, codes, if◌then◌else◌}
use Rattle.std.specs.Str.{bytes_eq}
use Rattle.std.proofs.lemmas.Slice.Eq.{bytes_eq-Decides}
use Rattle.mf_errno.specs.Privilege.{privilege_named}
use Rattle.mf_script.specs.declared.error.ScriptFault.TheVariants.{UnknownWord}
use Rattle.mf_calls.specs.declared.script.Call.{Call}
use Rattle.mf_calls.specs.declared.script.Call.TheVariants as call
use Rattle.mf_names.specs.declared.limits.TheConstants.{MOST_DESCRIPTORS}
use Rattle.mf_calls.specs.declared.limits.TheConstants.{MODE_LIMIT}
use Rattle.mf_rule.specs.declared.rule_list.TheConstants.{MAX_RULES}
use Rattle.mf_rule.specs.declared.ports.TheConstants.{LAST_PORT}
use Rattle.mf_calls.specs.Names.{is_process_name}
use Rattle.mf_calls.specs.WellFormed.{IsWord, IsName, IsPath, IsFormedCall, IsFormedLine}
use Rattle.mf_script.specs.Readers.{Read, fails, by_option}
use Rattle.mf_words.specs.Words.{Words}
use Rattle.mf_script.specs.Parts.{entry_named, simple_name_of, process_of, path_of, mode_of, open_mode_of, protocol_of, port_of, privilege_of, rule_number_of, descriptor_of}
use Rattle.mf_script.specs.Calls.{Arguments, bare, one, two, three, add_rule, set_rule, ugidfw_calls, ugidfw, calls, call_in, call_named, call_words}
use Rattle.mf_script.specs.Lines.{behind_at, line_words}
use Rattle.mf_spelling.specs.Printed.{first_word}
use Rattle.mf_spelling.specs.Spelling.{call_pieces}
use Rattle.mf_script.proofs.ScriptWords.{AreWords, by_word}
use Rattle.mf_script.proofs.Yields.{Yields, done, refused, chain, skip, chosen}
use Rattle.mf_script.proofs.FormedParts.{name_formed, process_formed, path_formed, mode_formed, open_mode_formed, port_formed, bytes_formed, word_formed, sides_formed, rule_number_formed, descriptor_formed, rule_formed}

-- the call has the name
abbrev HasName : List ℕ → Call → Type 0
HasName name c = first_word (call_pieces c) ≡ name

-- a reader of calls of that name, which are well formed where their words are
record AreCallsOf (name : List ℕ) (arguments : Arguments) : Type 0 where
  formed : (ws : Words) → AreWords ws → Yields (λ read. IsFormedCall read.0) (arguments ws)
  named : (ws : Words) → Yields (λ read. HasName name read.0) (arguments ws)

-- a reader of one word that gives such a thing
abbrev Reads : {A : Type 0} → (A → Type 0) → (List ℕ → Read A) → Type 0
Reads P read = (w : List ℕ) → IsWord w → Yields P (read w)

bare_formed : {name : List ℕ} (call : Call) → HasName name call → IsFormedCall call → AreCallsOf name (bare call)
bare_formed call named formed = record { formed = λ ws are. done formed; named = λ ws. done named }

one_formed : {A : Type 0} {name : List ℕ} (P : A → Type 0) (first : List ℕ → Read A) (call : A → Call)
    → Reads P first → ((x : A) → HasName name (call x)) → ((x : A) → P x → IsFormedCall (call x)) → AreCallsOf name (one first call)
one_formed P first call each named so = record {
  formed = λ ws are. chain _ _ (by_word first each ws are) (λ x ok. done (so x.0 ok.0));
  named = λ ws. skip _ _ (λ x. done (named x.0));
}

two_formed : {A B : Type 0} {name : List ℕ} (P : A → Type 0) (Q : B → Type 0) (first : List ℕ → Read A) (second : List ℕ → Read B) (call : A → B → Call)
    → Reads P first → Reads Q second → ((x : A) (y : B) → HasName name (call x y)) → ((x : A) (y : B) → P x → Q y → IsFormedCall (call x y)) → AreCallsOf name (two first second call)
two_formed P Q first second call each each_second named so = record {
  formed = λ ws are.
      chain _ _ (by_word first each ws are) (λ x x_ok. chain _ _ (by_word second each_second x.1 x_ok.1) (λ y y_ok. done (so x.0 y.0 x_ok.0 y_ok.0)));
  named = λ ws. skip _ _ (λ x. skip _ _ (λ y. done (named x.0 y.0)));
}

three_formed : {A B C : Type 0} {name : List ℕ} (P : A → Type 0) (Q : B → Type 0) (R : C → Type 0) (first : List ℕ → Read A) (second : List ℕ → Read B) (third : List ℕ → Read C) (call : A → B → C → Call)
    → Reads P first → Reads Q second → Reads R third → ((x : A) (y : B) (z : C) → HasName name (call x y z)) → ((x : A) (y : B) (z : C) → P x → Q y → R z → IsFormedCall (call x y z))
    → AreCallsOf name (three first second third call)
three_formed P Q R first second third call each each_second each_third named so = record {
  formed = λ ws are.
      chain _ _ (by_word first each ws are) (λ x x_ok.
      chain _ _ (by_word second each_second x.1 x_ok.1) (λ y y_ok.
      chain _ _ (by_word third each_third y.1 y_ok.1) (λ z z_ok. done (so x.0 y.0 z.0 x_ok.0 y_ok.0 z_ok.0))));
  named = λ ws. skip _ _ (λ x. skip _ _ (λ y. skip _ _ (λ z. done (named x.0 y.0 z.0))));
}

name_read : Reads IsName simple_name_of
name_read w word = name_formed w

process_read : Reads (λ w. is_process_name w ≡ true) process_of
process_read w word = process_formed w

path_read : Reads IsPath path_of
path_read w word = path_formed w

mode_read : Reads (λ mode. mode ≤ MODE_LIMIT) mode_of
mode_read w word = mode_formed w

descriptor_read : Reads (λ n. n < MOST_DESCRIPTORS) descriptor_of
descriptor_read w word = descriptor_formed w

open_mode_read : Reads (λ mode. (mode.0 || mode.1) ≡ true) open_mode_of
open_mode_read w word = open_mode_formed w

privilege_read : Reads (λ privilege. Unit {0}) privilege_of
unfolding privilege_of
privilege_read w word = chosen (privilege_named w) _ _ refused (λ privilege. done tt)

protocol_read : Reads (λ tcp. Unit {0}) protocol_of
protocol_read w word = record { of = λ tcp e. tt }

port_read : Reads (λ port. port ≤ LAST_PORT) port_of
port_read w word = port_formed w

-- a table of such readers, where a word stands for a call of that name
EachFormed : (List ℕ → List ℕ) → List (List ℕ × Arguments) → Type 0
EachFormed name [] = Unit {0}
EachFormed name (entry ∷ table) = AreCallsOf (name entry.0) entry.1 × EachFormed name table

record AllFormed (name : List ℕ → List ℕ) (table : List (List ℕ × Arguments)) : Type 0 where
  each : EachFormed name table

none_left : {name : List ℕ → List ℕ} → AllFormed name []
unfolding EachFormed
none_left = record { each = tt }

infixr 5 ◌&◌
◌&◌ : {name : List ℕ → List ℕ} {entry : List ℕ × Arguments} {table : List (List ℕ × Arguments)} → AreCallsOf (name entry.0) entry.1 → AllFormed name table → AllFormed name (entry ∷ table)
unfolding EachFormed
formed & rest = record { each = (formed, rest.each) }

module _ (name : List ℕ → List ℕ) (word : List ℕ) where
  abbrev found_in : List (List ℕ × Arguments) → Arguments
  found_in table ws = by_option (entry_named word table) (fails UnknownWord) (λ arguments. arguments ws)

  found_formed : (table : List (List ℕ × Arguments)) → EachFormed name table → AreCallsOf (name word) (found_in table)
  unfolding EachFormed
  found_formed [] each = record { formed = λ ws are. refused; named = λ ws. refused }
  found_formed (entry ∷ table) each = by_test (bytes_eq word entry.0) (bytes_eq-Decides word entry.0).0 (found_formed table each.1) where
    by_test : (same : Bool) → (same ≡ true → word ≡ entry.0) → AreCallsOf (name word) (found_in table)
        → AreCallsOf (name word) (λ ws. by_option (if same then Some entry.1 else entry_named word table) (fails UnknownWord) (λ arguments. arguments ws))
    by_test true same further = subst (λ (word : List ℕ). AreCallsOf (name word) entry.1) (sym (same refl)) each.0
    by_test false other further = further

number_read : Reads (λ n. n < MAX_RULES) rule_number_of
number_read w word = rule_number_formed w

add_formed : AreCallsOf (codes "ugidfw") add_rule
unfolding add_rule
add_formed = record {
  formed = λ ws are. chain _ _ (rule_formed ws) (λ rule ok. done ok);
  named = λ ws. skip _ _ (λ rule. done refl);
}

set_formed : AreCallsOf (codes "ugidfw") set_rule
unfolding set_rule
set_formed = record {
  formed = λ ws are.
      chain _ _ (by_word rule_number_of number_read ws are) (λ number number_ok. chain _ _ (rule_formed number.1) (λ rule rule_ok. done (number_ok.0, rule_ok)));
  named = λ ws. skip _ _ (λ number. skip _ _ (λ rule. done refl));
}

ugidfw_calls_formed : AllFormed (λ word. codes "ugidfw") ugidfw_calls
ugidfw_calls_formed =
    bare_formed call.UgidfwList refl tt
    & add_formed
    & set_formed
    & one_formed _ _ call.UgidfwRemove number_read (λ n. refl) (λ n ok. ok)
    & none_left

ugidfw_formed : AreCallsOf (codes "ugidfw") ugidfw
unfolding ugidfw call_in
ugidfw_formed = record {
  formed = λ ws are. by_words ws are;
  named = λ ws. by_names ws;
} where
  of : (name : List ℕ) → AreCallsOf (codes "ugidfw") (call_in ugidfw_calls name)
  of name = found_formed (λ word. codes "ugidfw") name ugidfw_calls ugidfw_calls_formed.each

  by_words : (ws : Words) → AreWords ws → Yields (λ read. IsFormedCall read.0) (ugidfw ws)
  by_words [] are = refused
  by_words (name ∷ ws) are = (of name).formed ws are.1

  by_names : (ws : Words) → Yields (λ read. HasName (codes "ugidfw") read.0) (ugidfw ws)
  by_names [] = refused
  by_names (name ∷ ws) = (of name).named ws

all_formed : AllFormed (λ word. word) calls
all_formed =
    one_formed _ _ call.Fork name_read (λ x. refl) (λ x ok. ok)
    & bare_formed call.Exit refl tt
    & one_formed _ _ call.See process_read (λ x. refl) (λ x ok. ok)
    & one_formed _ _ call.Signal process_read (λ x. refl) (λ x ok. ok)
    & one_formed _ _ call.Debug process_read (λ x. refl) (λ x ok. ok)
    & one_formed _ _ call.Sched process_read (λ x. refl) (λ x ok. ok)
    & one_formed _ _ call.Priv privilege_read (λ x. refl) (λ x ok. ok)
    & bare_formed call.Getpmac refl tt
    & one_formed _ _ call.Setpmac word_formed (λ x. refl) (λ x ok. ok)
    & one_formed _ _ call.Exec path_read (λ x. refl) (λ x ok. ok)
    & one_formed _ _ call.Create path_read (λ x. refl) (λ x ok. ok)
    & one_formed _ _ call.Mkdir path_read (λ x. refl) (λ x ok. ok)
    & one_formed _ _ call.Read path_read (λ x. refl) (λ x ok. ok)
    & two_formed _ _ _ _ call.Write path_read bytes_formed (λ x y. refl) (λ path text path_ok text_ok. (path_ok, text_ok))
    & one_formed _ _ call.Stat path_read (λ x. refl) (λ x ok. ok)
    & one_formed _ _ call.Getfmac path_read (λ x. refl) (λ x ok. ok)
    & two_formed _ _ _ _ call.Setfmac word_formed path_read (λ x y. refl) (λ label path label_ok path_ok. (label_ok, path_ok))
    & one_formed _ _ call.Readdir path_read (λ x. refl) (λ x ok. ok)
    & two_formed _ _ _ _ call.Chmod path_read mode_read (λ x y. refl) (λ path mode path_ok mode_ok. (path_ok, mode_ok))
    & one_formed _ _ call.Unlink path_read (λ x. refl) (λ x ok. ok)
    & two_formed _ _ _ _ (λ path mode. call.OpenFd path mode.0 mode.1) path_read open_mode_read (λ x y. refl) (λ path mode path_ok mode_ok. (path_ok, mode_ok))
    & one_formed _ _ call.Fread descriptor_read (λ x. refl) (λ n ok. ok)
    & two_formed _ _ _ _ call.Fwrite descriptor_read bytes_formed (λ x y. refl) (λ n text n_ok text_ok. (n_ok, text_ok))
    & one_formed _ _ call.Close descriptor_read (λ x. refl) (λ n ok. ok)
    & one_formed _ _ call.Pipe name_read (λ x. refl) (λ x ok. ok)
    & one_formed _ _ call.Socket name_read (λ x. refl) (λ x ok. ok)
    & one_formed _ _ call.Pread name_read (λ x. refl) (λ x ok. ok)
    & two_formed _ _ _ _ call.Pwrite name_read bytes_formed (λ x y. refl) (λ name text name_ok text_ok. (name_ok, text_ok))
    & one_formed _ _ call.Pstat name_read (λ x. refl) (λ x ok. ok)
    & two_formed _ _ _ _ call.Setpipemac word_formed name_read (λ x y. refl) (λ label name label_ok name_ok. (label_ok, name_ok))
    & three_formed _ _ _ _ _ _ call.Send name_read name_read bytes_formed (λ x y z. refl) (λ from to text from_ok to_ok text_ok. (from_ok, to_ok, text_ok))
    & one_formed _ _ call.Recv name_read (λ x. refl) (λ x ok. ok)
    & one_formed _ _ call.Seesock name_read (λ x. refl) (λ x ok. ok)
    & two_formed _ _ _ _ call.Setsockmac word_formed name_read (λ x y. refl) (λ label name label_ok name_ok. (label_ok, name_ok))
    & three_formed _ _ _ _ _ _ call.Bind name_read protocol_read port_read (λ x y z. refl) (λ name tcp port name_ok tcp_ok port_ok. (name_ok, port_ok))
    & bare_formed call.Kldstat refl tt
    & one_formed _ _ call.Kldload word_formed (λ x. refl) (λ x ok. ok)
    & one_formed _ _ call.Kldunload word_formed (λ x. refl) (λ x ok. ok)
    & one_formed _ _ (λ sides. call.Sysctl sides.0 sides.1) sides_formed (λ x. refl) (λ sides ok. ok)
    & ugidfw_formed
    & none_left

found_call : (name : List ℕ) → AreCallsOf name (call_in calls name)
unfolding call_in
found_call name = found_formed (λ word. word) name calls all_formed.each

pub call_has_name : (name : List ℕ) (ws : Words) → Yields (λ read. first_word (call_pieces read.0) ≡ name) (call_in calls name ws)
call_has_name name ws = (found_call name).named ws

call_named_formed : (name : List ℕ) (ws : Words) → AreWords ws → Yields IsFormedCall (call_named name ws)
unfolding call_named
call_named_formed name ws are = chain _ _ ((found_call name).formed ws are) (λ call formed. skip _ _ (λ u. done formed))

call_formed : (ws : Words) → AreWords ws → Yields IsFormedCall (call_words ws)
unfolding call_words
call_formed [] are = refused
call_formed (name ∷ ws) are = call_named_formed name ws are.1

pub line_formed : (w : List ℕ) (ws : Words) → AreWords ws → Yields IsFormedLine (line_words w ws)
unfolding line_words
line_formed w ws are = chosen (behind_at w) _ _
    (chain _ _ (call_named_formed w ws are) (λ call call_ok. done (record { child = tt; call = call_ok })))
    (λ name. chain _ _ (name_formed name) (λ child child_ok. chain _ _ (call_formed ws are) (λ call call_ok. done (record { child = child_ok; call = call_ok }))))
