-- Rules about ports that texts add, one after another.
use Rattle.std.proofs.Common.{◌≡◌, ℕ, ◌≤◌, Bool, true, false, cond, ltb, leb, List, [], ◌∷◌, ◌++◌, length, length-append, append-nil, append_assoc, Option, Some, None, refl, sym, ap, ◌∙◌, arith}
use Rattle.std.proofs.lemmas.Bool.{ltb-true, ltb-false, lt-leb, le-leb}
use Rattle.std.specs.Prelude.{option_map, nat_le, if◌then◌else◌}
use Rattle.mf_labeltext.specs.Reading.{◌>>=◌}
use Rattle.mf_rule.specs.declared.ports.PortRule.{PortRule}
use Rattle.mf_rule.specs.declared.ports.TheConstants.{MOST_PORT_RULES}
use Rattle.mf_rule.specs.PortRules.{port_rule_in, each_port_rule, with_port_rule}

-- the rules, where they are few enough
abbrev few : List PortRule → Option (List PortRule)
few rules = if nat_le (length rules) MOST_PORT_RULES then Some rules else None

-- the rules so far and those of the texts, where they are few enough
abbrev pub with_all : List PortRule → List (List ℕ) → Option (List PortRule)
with_all rules texts = each_port_rule texts >>= λ more. few (rules ++ more)

few_are : (rules : List PortRule) (b : Bool) → leb (length rules) MOST_PORT_RULES ≡ b → few rules ≡ cond b (Some rules) None
few_are rules b is = ap (λ b. cond b (Some rules) None) is

-- by the rule of the next text, the rules of those behind it, and whether there is room
by_next : (rules : List PortRule) (behind : Option (List PortRule)) (next : Option PortRule) (room : Bool) → ltb (length rules) MOST_PORT_RULES ≡ room
    → ((next >>= λ rule. option_map (λ more. rule ∷ more) behind) >>= λ more. few (rules ++ more))
    ≡ (cond room (option_map (λ rule. rules ++ rule ∷ []) next) None >>= λ rules. behind >>= λ more. few (rules ++ more))
by_next rules behind None true is = refl
by_next rules behind None false is = refl
by_next rules None (Some rule) true is = refl
by_next rules None (Some rule) false is = refl
by_next rules (Some more) (Some rule) true is = ap few (sym (append_assoc rules (rule ∷ []) more))
by_next rules (Some more) (Some rule) false is =
    few_are (rules ++ rule ∷ more) false
    (lt-leb (length (rules ++ rule ∷ more)) MOST_PORT_RULES (omega (arith, ltb-false (length rules) MOST_PORT_RULES is, length-append rules (rule ∷ more))))

-- the next text, and then those behind it
next_then : (rules : List PortRule) (texts : List (List ℕ)) (w : List ℕ) (ws : List (List ℕ)) (found : Option (List PortRule)) → texts ≡ w ∷ ws → with_port_rule rules w ≡ found
    → with_all rules texts ≡ (found >>= λ rules. with_all rules ws)
unfolding each_port_rule with_port_rule
next_then rules texts w ws found is e =
    ap (with_all rules) is ∙ by_next rules (each_port_rule ws) (port_rule_in w) (ltb (length rules) MOST_PORT_RULES) refl ∙ ap (λ found. found >>= λ rules. with_all rules ws) e

pub text_fails : (rules : List PortRule) (texts : List (List ℕ)) (w : List ℕ) (ws : List (List ℕ)) (all : Option (List PortRule))
    → texts ≡ w ∷ ws → with_all rules texts ≡ all → with_port_rule rules w ≡ None → None ≡ all
text_fails rules texts w ws all is so_far e = sym (next_then rules texts w ws None is e) ∙ so_far

pub text_adds : (rules : List PortRule) (texts : List (List ℕ)) (w : List ℕ) (ws : List (List ℕ)) (more : List PortRule) (all : Option (List PortRule))
    → texts ≡ w ∷ ws → with_all rules texts ≡ all → with_port_rule rules w ≡ Some more → with_all more ws ≡ all
text_adds rules texts w ws more all is so_far e = sym (next_then rules texts w ws (Some more) is e) ∙ so_far

-- the rules with one more, where there was room
is_within : (rules : List PortRule) (next : Option PortRule) (room : Bool) (more : List PortRule) → ltb (length rules) MOST_PORT_RULES ≡ room
    → cond room (option_map (λ rule. rules ++ rule ∷ []) next) None ≡ Some more → length more ≤ MOST_PORT_RULES
is_within rules None true more is e = cc
is_within rules None false more is e = cc
is_within rules (Some rule) false more is e = cc
is_within rules (Some rule) true more is e =
    let here : rules ++ rule ∷ [] ≡ more = cc in
    omega (arith, ltb-true (length rules) MOST_PORT_RULES is, length-append rules (rule ∷ []), ap length here)

with_one_within : (rules : List PortRule) (w : List ℕ) (more : List PortRule) → with_port_rule rules w ≡ Some more → length more ≤ MOST_PORT_RULES
unfolding with_port_rule
with_one_within rules w more e = is_within rules (port_rule_in w) (ltb (length rules) MOST_PORT_RULES) more refl e

pub texts_end : (rules : List PortRule) (texts : List (List ℕ)) (w : List ℕ) (more : List PortRule) (all : Option (List PortRule))
    → texts ≡ w ∷ [] → with_all rules texts ≡ all → with_port_rule rules w ≡ Some more → Some more ≡ all
unfolding each_port_rule
texts_end rules texts w more all is so_far e =
    sym (few_are more true (le-leb (length more) MOST_PORT_RULES (with_one_within rules w more e))) ∙ ap few (sym (append-nil more)) ∙ text_adds rules texts w [] more all is so_far e
