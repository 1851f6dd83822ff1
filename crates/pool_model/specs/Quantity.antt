-- Which texts stand for a quantity in millionths, and for which number.
use Rattle.std.specs.Prelude.{◌≡◌, ◌≤◌, ◌<◌, ◌^◌, ◌+◌, ◌-◌, ◌*◌, ◌/◌, ◌%◌, ◌-ℤ◌, unsigned_abs, int_lt, zero, suc, decimal, ◌++◌, ◌&&◌, ◌==◌, ℕ}
use Rattle.std.specs.Prelude.{ℤ, pos, List, [], ◌∷◌, length, drop, take, fold, Bool, true, false, nat_lt, nat_le, if◌then◌else◌, Option, Some, None, option_map}
use Rattle.std.specs.List.{list_all, prefix_len}
use Rattle.std.specs.Char.{is_ascii_digit}

-- the number that decimal digits spell
abbrev pub number : List ℕ → ℕ
number digits = fold (λ n d. n * 10 + (d - 48)) 0 digits

-- ---- the form of a text, and its value

-- a minus before a number below 0, and no plus
abbrev pub sign : Bool → List ℕ
sign true = 45 ∷ []
sign false = []

-- the decimals behind their point; with none there is no point
abbrev pub behind_point : List ℕ → List ℕ
behind_point [] = []
behind_point (d ∷ ds) = 46 ∷ d ∷ ds

-- the text is this sign, 1 to 15 digits, and 0 to 6 decimals
pub record Spells (text : List ℕ) (negative : Bool) (whole decimals : List ℕ) : Type 0 where
  pub parts : text ≡ sign negative ++ whole ++ behind_point decimals
  pub whole_are : list_all is_ascii_digit whole ≡ true
  pub some_whole : 0 < length whole
  pub few_whole : length whole ≤ 15
  pub decimals_are : list_all is_ascii_digit decimals ≡ true
  pub few_decimals : length decimals ≤ 6

-- the digits with the decimals filled up to six
abbrev pub millionths : List ℕ → List ℕ → ℕ
millionths whole decimals = number whole * 10 ^ 6 + number decimals * 10 ^ (6 - length decimals)

-- the number of that sign and size
abbrev pub signed : Bool → ℕ → ℤ
signed true n = pos 0 -ℤ pos n
signed false n = pos n

-- what such a text stands for
abbrev pub value : Bool → List ℕ → List ℕ → ℤ
value negative whole decimals = signed negative (millionths whole decimals)

-- the text stands for this number
abbrev pub StandsFor : List ℕ → ℤ → Type 0
StandsFor text q = (negative : Bool) × (whole : List ℕ) × (decimals : List ℕ) × Spells text negative whole decimals × (value negative whole decimals ≡ q)

-- ---- the same, computed from left to right

-- the millionths of the part from the point on
unfoldable pub decimals_of : List ℕ → Option ℕ
decimals_of [] = Some 0
decimals_of (c ∷ ds) = if (c == 46) && nat_lt 0 (length ds) && nat_le (length ds) 6 && list_all is_ascii_digit ds then Some (number ds * 10 ^ (6 - length ds)) else None

-- the millionths of a text with no sign
unfoldable pub unsigned_of : List ℕ → Option ℕ
unsigned_of text =
    let len = prefix_len is_ascii_digit text in
    if nat_lt 0 len && nat_le len 15 then option_map (λ d. number (take len text) * 10 ^ 6 + d) (decimals_of (drop len text)) else None

-- the number that a text stands for, if it stands for one
unfoldable pub quantity : List ℕ → Option ℤ
quantity [] = None
quantity (c ∷ rest) = if c == 45 then option_map (signed true) (unsigned_of rest) else option_map (signed false) (unsigned_of (c ∷ rest))

-- ---- the text that is written for a quantity

-- n in that many digits
unfoldable pub fixed : ℕ → ℕ → List ℕ
fixed zero n = []
fixed (suc k) n = fixed k (n / 10) ++ (48 + n % 10) ∷ []

-- n in that many digits, without the zeros at its end
unfoldable pub trimmed : ℕ → ℕ → List ℕ
trimmed zero n = []
trimmed (suc k) n = if n % 10 == 0 then trimmed k (n / 10) else fixed (suc k) n

-- that many millionths: whole units with no leading zero, and as few decimals as it needs
abbrev pub spelled : Bool → ℕ → List ℕ
spelled negative size = sign negative ++ decimal (size / 10 ^ 6) ++ behind_point (trimmed 6 (size % 10 ^ 6))

-- the shortest text of a quantity
abbrev pub shortest : ℤ → List ℕ
shortest q = spelled (int_lt q (pos 0)) (unsigned_abs q)
