-- The value of a field, digit by digit from its front.
use Rattle.std.proofs.Common.{◌≡◌, ◌<◌, ◌≤◌, ℕ, suc, ◌+◌, ◌-◌, ◌*◌, ◌^◌, ◌%◌, true, List, length, get_or, drop}
use Rattle.std.proofs.Common.{refl, ◌∙◌, arith, add-one, drop-cons}
use Rattle.std.specs.Char.{is_ascii_digit}
use Rattle.std.specs.Str.{all_ascii_digits}
use Rattle.std.proofs.lemmas.List.{drop_all}
use Rattle.std.proofs.Math.Nat.{pow-suc, one-le-pow, mul-le-mul_left, pow-le-pow_right}
use Rattle.std.proofs.lemmas.Grind.{common_steps}
use Rattle.flow_text.specs.Digits.{value_of}
use Rattle.flow_text.specs.Numbers.{number_of}
use Rattle.flow_text.specs.declared.numbers.Number.TheVariants.{Value}

-- the bytes before place i are digits
abbrev pub AreDigits : List ℕ → ℕ → Type 0
AreDigits field i = all_ascii_digits field ≡ all_ascii_digits (drop i field)

-- the bytes before place i make this value
abbrev pub Makes : List ℕ → ℕ → ℕ → Type 0
Makes field i value = value_of field ≡ value * 10 ^ length (drop i field) + value_of (drop i field)

pub AreDigits-more : (field : List ℕ) (i : ℕ) → i < length field → is_ascii_digit (get_or field i 0) ≡ true
    → AreDigits field i → AreDigits field (i + 1)
AreDigits-more field i h digit so = so ∙ rw (drop-cons field i 0 h, digit, add-one) refl

step : (v d n w : ℕ) → v * 10 ^ suc n + (d * 10 ^ n + w) ≡ (v * 10 + d) * 10 ^ n + w
step v d n w = rw (pow-suc 10 n) (grind arith)

pub Makes-more : (field : List ℕ) (i value : ℕ) → i < length field → Makes field i value
    → Makes field (i + 1) (value * 10 + (get_or field i 0 - 48))
unfolding value_of
Makes-more field i value h so = so ∙ rw (drop-cons field i 0 h, add-one) (step value _ (length (drop (suc i) field)) _)

pub Makes-le : (field : List ℕ) (i value : ℕ) → Makes field i value → value ≤ value_of field
Makes-le field i value so =
    let one = one-le-pow (length (drop i field)) 10 (omega arith) in
    omega (arith, mul-le-mul_left value one)

pub Makes-all : (field : List ℕ) (i value : ℕ) → length field ≤ i → Makes field i value → value_of field ≡ value
unfolding value_of
Makes-all field i value h so = so ∙ rw (drop_all i field h) (omega arith)

pub number_of-value : (field : List ℕ) (limit : ℕ) → 0 < length field → all_ascii_digits field ≡ true
    → value_of field ≤ limit → number_of field limit ≡ Value (value_of field)
number_of-value field limit some digits h = grind (arith, common_steps)

-- a digit more is ten times as much
pub fits-more : (i v d : ℕ) → d ≤ 9 → v < 10 ^ i → v * 10 + d < 10 ^ (i + 1)
fits-more i v d nine h = rw (add-one, pow-suc 10 i) (omega arith)

-- behind fewer than nineteen digits one more has room in 64 bits
pub fits-nineteen : (i v : ℕ) → i < 19 → v < 10 ^ i → v * 10 + 9 < 10000000000000000000
fits-nineteen i v h fits =
    let ten : 0 < 10 = omega arith in
    let count : i + 1 ≤ 19 = omega arith in
    let le : 10 ^ (i + 1) ≤ 10 ^ 19 = pow-le-pow_right ten count in
    let more = fits-more i v 9 (omega arith) fits in
    omega arith

pub AreDigits-all : (field : List ℕ) (i : ℕ) → length field ≤ i → AreDigits field i → all_ascii_digits field ≡ true
AreDigits-all field i h so = so ∙ rw (drop_all i field h) refl

pub digit-le : (c : ℕ) → is_ascii_digit c ≡ true → c - 48 ≤ 9
digit-le c h = grind (arith, common_steps)

-- one digit more passes 128 bits, and so the whole does
pub Makes-past : (field : List ℕ) (i value : ℕ) → i < length field → Makes field i value
    → 2 ^ 128 ≤ value * 10 + (get_or field i 0 - 48) → 2 ^ 128 ≤ value_of field
Makes-past field i value h so past = let le = Makes-le field (i + 1) _ (Makes-more field i value h so) in omega arith

-- a byte from which that of the digit 0 is taken, in 64 bits that wrap: the digit's value, and above 9 for any other
-- byte
abbrev pub less_zero : ℕ → ℕ
less_zero c = (c + 18446744073709551568) % 18446744073709551616

pub is_digit-less_zero : (c : ℕ) → c < 256 → less_zero c ≤ 9 → is_ascii_digit c ≡ true
is_digit-less_zero c byte nine =
    let least : 48 ≤ c = omega arith in
    let most : c ≤ 57 = omega arith in
    grind (arith, common_steps)

pub less_zero-digit : (c : ℕ) → c < 256 → less_zero c ≤ 9 → c - 48 ≡ less_zero c
less_zero-digit c byte nine = omega arith
