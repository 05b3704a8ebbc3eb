-- Sets of numbers of rules, as bits.
use Rattle.std.specs.Prelude.{◌≡◌, ◌==◌, ◌<◌, ◌-◌, ℕ, ◌*◌, ◌%◌, ◌^◌, Bool, true, false, nat_lt, if◌then◌else◌, List, filter}
use Rattle.std.specs.Int.RustNames.{bit_and, bit_or}
use Rattle.std.specs.Int.{bit_at, bit_not, w128}
use Rattle.std.specs.List.{range_with_len}
use Rattle.mf_rule.specs.declared.rule_bits.Bits.{Bits}
use Rattle.mf_rule.specs.declared.rule_list.TheConstants.{MAX_RULES}

-- the number is in the set
abbrev pub has_bit : ℕ → Bits → Bool
has_bit number bits = (if nat_lt number 128 then bit_at bits.low number else bit_at bits.high (number - 128)) == 1

-- no number
abbrev pub no_bits : Bits
no_bits = record { low = 0; high = 0 }

-- the word with the bit of the place set, or cleared
abbrev pub word_with : ℕ → Bool → ℕ → ℕ
word_with place is_in word =
    if is_in then bit_or word (1 * 2 ^ place % 2 ^ 128) else bit_and word (bit_not w128 (1 * 2 ^ place % 2 ^ 128))

-- the set with the number, or without it
abbrev pub with_bit : ℕ → Bool → Bits → Bits
with_bit number is_in bits =
    if nat_lt number 128 then record { low = word_with number is_in bits.low; high = bits.high }
    else record { low = bits.low; high = word_with (number - 128) is_in bits.high }

-- no number is in the set
abbrev pub IsEmpty : Bits → Type 0
IsEmpty bits = (n : ℕ) → has_bit n bits ≡ false

-- the number is in the set, and no lower one is
pub record IsLeastBit (number : ℕ) (bits : Bits) : Type 0 where
  pub within : number < 256
  pub there : has_bit number bits ≡ true
  pub least : (n : ℕ) → n < number → has_bit n bits ≡ false

-- the numbers of rules that are in the set, rising
unfoldable pub numbers : Bits → List ℕ
numbers bits = filter (λ n. has_bit n bits) (range_with_len 0 MAX_RULES)
