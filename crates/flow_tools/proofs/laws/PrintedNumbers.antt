-- What the digits of a printed number are when they are read.
use Rattle.std.proofs.Common.{◌≡◌, ℕ, suc, ◌+◌, ◌-◌, ◌*◌, ◌/◌, ◌%◌, ◌^◌, ◌≤◌, ◌<◌, true, false, eqb, List, [], ◌∷◌}
use Rattle.std.proofs.Common.{◌++◌, length, refl, ◌∙◌, length-append, arith}
use Rattle.std.specs.Prelude.{decimal}
use Rattle.std.specs.List.{All}
use Rattle.std.specs.Str.{all_ascii_digits}
use Rattle.std.specs.Char.{is_ascii_digit}
use Rattle.std.proofs.Math.Nat.{pow-suc}
use Rattle.std.proofs.lemmas.Bool.{and_parts, and_from, ne_eqb}
use Rattle.std.proofs.lemmas.Grind.{common_steps}
use Rattle.std.proofs.lemmas.Fmt.{decimal_by_steps_wide}
use Rattle.std.proofs.lemmas.List.Elements.{All-nil, All-cons}
use Rattle.flow_text.specs.LineParts.{is_blank}
use Rattle.flow_text.specs.LineParts.{has_bytes}
use Rattle.flow_text.specs.LineParts.{is_end, HasNoEnd}
use Rattle.flow_text.specs.Digits.{value_of}
use Rattle.flow_text.specs.Numbers.{is_number}

-- Some digits, and the number that they make.
pub record IsPrinted (n : ℕ) (ds : List ℕ) : Type 0 where
  pub some : 0 < length ds
  pub digits : all_ascii_digits ds ≡ true
  pub value : value_of ds ≡ n

-- a digit is a digit, and digits with one more are digits
digit : (d : ℕ) → d < 10 → is_ascii_digit (48 + d) ≡ true
digit d h = grind (arith, common_steps)

digits-push : (ds : List ℕ) (c : ℕ) → all_ascii_digits ds ≡ true → is_ascii_digit c ≡ true
    → all_ascii_digits (ds ++ c ∷ []) ≡ true
digits-push [] c h k = and_from (is_ascii_digit c) true k refl
digits-push (d ∷ ds) c h k =
    let p = and_parts (is_ascii_digit d) (all_ascii_digits ds) h in
    and_from (is_ascii_digit d) (all_ascii_digits (ds ++ c ∷ [])) p.0 (digits-push ds c p.1 k)

-- one digit more behind a number of n digits
push_step : (v d n w : ℕ) → v * 10 ^ suc n + (w * 10 + d) ≡ (v * 10 ^ n + w) * 10 + d
push_step v d n w = rw (pow-suc 10 n) (grind arith)

-- the value with one digit more
value-push : (ds : List ℕ) (c : ℕ) → value_of (ds ++ c ∷ []) ≡ value_of ds * 10 + (c - 48)
unfolding value_of
value-push [] c = omega arith
value-push (d ∷ ds) c =
    let n : length (ds ++ c ∷ []) ≡ suc (length ds) = omega (arith, length-append ds (c ∷ [])) in
    rw (n, value-push ds c) (push_step (d - 48) (c - 48) (length ds) (value_of ds))

-- a number below 10, and any other by its last digit
one_digit : (n : ℕ) → n < 10 → IsPrinted n ((48 + n) ∷ [])
unfolding value_of
one_digit n h = record {
  some = omega arith;
  digits = and_from (is_ascii_digit (48 + n)) true (digit n h) refl;
  value = omega arith;
}

more_digits : (n : ℕ) (ds : List ℕ) → 10 ≤ n → IsPrinted (n / 10) ds → IsPrinted n (ds ++ ((48 + n % 10) ∷ []))
more_digits n ds h p = record {
  some = omega (arith, length-append ds ((48 + n % 10) ∷ []));
  digits = digits-push ds (48 + n % 10) p.digits (digit (n % 10) (omega arith));
  value = value-push ds (48 + n % 10) ∙ omega (arith, p.value);
}

-- the decimal digits of a number
pub printed : (n : ℕ) → n < 10 ^ 64 → IsPrinted n (decimal n)
printed n h = decimal_by_steps_wide IsPrinted one_digit more_digits n h

-- a digit is no blank and no byte 10
solid : (c : ℕ) → is_ascii_digit c ≡ true → (is_blank c ≡ false) × (is_end c ≡ false)
solid c h =
    let low : 48 ≤ c = grind (arith, common_steps) in
    let space : eqb c 32 ≡ false = ne_eqb c 32 (omega arith) in
    let tab : eqb c 9 ≡ false = ne_eqb c 9 (omega arith) in
    let turn : eqb c 13 ≡ false = ne_eqb c 13 (omega arith) in
    let end : eqb c 10 ≡ false = ne_eqb c 10 (omega arith) in
    (rw (space, tab, turn) refl, end)

-- digits are no blanks and don't end a line
pub digits_solid : (ds : List ℕ) → all_ascii_digits ds ≡ true → All (λ c. is_blank c ≡ false) ds × HasNoEnd ds
digits_solid [] h = (All-nil (λ c. is_blank c ≡ false), All-nil (λ c. is_end c ≡ false))
digits_solid (d ∷ ds) h =
    let p = and_parts (is_ascii_digit d) (all_ascii_digits ds) h in
    let here = solid d p.0 in
    let rest = digits_solid ds p.1 in
    (All-cons (λ c. is_blank c ≡ false) d ds here.0 rest.0, All-cons (λ c. is_end c ≡ false) d ds here.1 rest.1)

-- printed digits are read as a number
pub number_printed : (n : ℕ) (ds : List ℕ) → IsPrinted n ds → is_number ds ≡ true
number_printed n ds p =
    let some = p.some in
    let has : has_bytes ds ≡ true = search arith in
    and_from (has_bytes ds) (all_ascii_digits ds) has p.digits
