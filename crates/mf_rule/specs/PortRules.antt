-- Rules about ports, as the sysctl `security.mac.portacl.rules` of mac_portacl(4) has them: none, or rules with a comma between each two. That
-- there are at most 64 is this model's own choice.
use Rattle.std.specs.Prelude.{ℕ, Bool, true, false, nat_lt, nat_le, if◌then◌else◌, List, [], ◌∷◌, ◌++◌, length, Option, Some, None, option_map, codes}
use Rattle.std.specs.Str.{byte, bytes_eq}
use Rattle.mf_labeltext.specs.Reading.{◌>>=◌, cut, number, parts}
use Rattle.mf_rule.specs.Words.{id}
use Rattle.mf_rule.specs.declared.ports.PortRule.{PortRule}
use Rattle.mf_rule.specs.declared.ports.TheConstants.{LAST_PORT, MOST_PORT_RULES}

-- whether the word is the first of two
unfoldable pub first_of : List ℕ → List ℕ → List ℕ → Option Bool
first_of first second w = if bytes_eq w first then Some true else if bytes_eq w second then Some false else None

-- `uid` or `gid`, an id, `tcp` or `udp`, and a port, with a colon between each two
unfoldable pub port_rule_in : List ℕ → Option PortRule
port_rule_in text = do
  kind ← cut (byte ":") text
  group ← first_of (codes "gid") (codes "uid") kind.0
  holder ← cut (byte ":") kind.1
  id ← id holder.0
  protocol ← cut (byte ":") holder.1
  tcp ← first_of (codes "tcp") (codes "udp") protocol.0
  port ← number 0 LAST_PORT protocol.1
  Some (record { group = group; id = id; tcp = tcp; port = port })

-- the rule of each text, where each is one
unfoldable pub each_port_rule : List (List ℕ) → Option (List PortRule)
each_port_rule [] = Some []
each_port_rule (text ∷ texts) = port_rule_in text >>= λ rule. option_map (λ rules. rule ∷ rules) (each_port_rule texts)

-- the rules that the text spells, where there are at most as many as may be listed: none, or some with a comma between each two
unfoldable pub port_rules_in : List ℕ → Option (List PortRule)
port_rules_in [] = Some []
port_rules_in text =
    each_port_rule (parts (byte ",") text) >>= λ rules. if nat_le (length rules) MOST_PORT_RULES then Some rules else None

-- the rules with that of a further text, where there is room for one
unfoldable pub with_port_rule : List PortRule → List ℕ → Option (List PortRule)
with_port_rule rules text = if nat_lt (length rules) MOST_PORT_RULES then option_map (λ rule. rules ++ rule ∷ []) (port_rule_in text) else None
