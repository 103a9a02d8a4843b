-- The bytes of tokens.
use Rattle.std.specs.Prelude.{ℕ, ◌-◌, Bool, ◌&&◌, ◌||◌, nat_lt, nat_le, ◌==◌, if◌then◌else◌}
use Rattle.rapid_num.specs.Literal.{digit_value}

-- the uppercase of a letter; any other byte is unchanged
abbrev pub upper : ℕ → ℕ
upper b = if nat_le 97 b && nat_le b 122 then b - 32 else b

-- tab, line feed, form feed, carriage return and space
abbrev pub is_blank : ℕ → Bool
is_blank b = b == 9 || b == 10 || b == 12 || b == 13 || b == 32

abbrev pub is_hex : ℕ → Bool
is_hex b = nat_lt (digit_value b) 16
