-- What a line of the usual form says.
use Rattle.std.proofs.Common.{◌≡◌, ◌<◌, ◌≤◌, ℕ, zero, suc, ◌+◌, ◌-◌, ◌*◌, ◌^◌, Bool, true, false, ◌&&◌, List, [], ◌∷◌, ◌++◌}
use Rattle.std.proofs.Common.{length, get_or, take, drop, refl, ap, ◌∙◌, sym, subst, arith, add-one, drop-cons, inl, inr}
use Rattle.std.proofs.Common.{length-append, None, nat_lt, rules as std_rules}
use Rattle.std.specs.Char.{is_ascii_digit}
use Rattle.std.specs.Str.{all_ascii_digits}
use Rattle.std.proofs.lemmas.Grind.{common_steps}
use Rattle.std.proofs.lemmas.Bool.{true≢false, cases_lt}
use Rattle.std.proofs.lemmas.List.{get_or-drop, get_or-take, length-drop, length-take-le, take_more, drop-take}
use Rattle.std.proofs.lemmas.List.{take-take, drop_all}
use Rattle.std.proofs.Math.Nat.{pow-suc}
use Rattle.flow_text.specs.LineParts.{is_blank, is_end}
use Rattle.flow_text.specs.Fields.{fields_of}
use Rattle.flow_text.specs.Digits.{value_of}
use Rattle.flow_text.specs.Numbers.{is_number}
use Rattle.flow_text.specs.Tests.{first_failed, ends_tests}
use Rattle.flow_text.specs.declared.faults.FaultCode.{FaultCode}
use Rattle.flow_text.specs.declared.usual_lines.TheConstants.{MOST_BLANKS}
use Rattle.flow_text.specs.UsualLines.{AreBlanks, IsLeading, IsNumberBehind, IsLetter, IsUsual}
use Rattle.flow_text.proofs.FieldLemmas.{fields_of-at, fields_of-drop}
use Rattle.flow_net.specs.declared.limits.TheConstants.{GREATEST_CAPACITY}

-- one digit more
step : (v d n w : ℕ) → v * 10 ^ suc n + (w * 10 + d) ≡ (v * 10 ^ n + w) * 10 + d
step v d n w = rw (pow-suc 10 n) (grind arith)

pub value_of-push : (xs : List ℕ) (c : ℕ) → value_of (xs ++ c ∷ []) ≡ value_of xs * 10 + (c - 48)
unfolding value_of
value_of-push [] c = omega arith
value_of-push (x ∷ xs) c =
    let len : length (xs ++ c ∷ []) ≡ suc (length xs) = omega (arith, length-append xs (c ∷ [])) in
    rw (len, value_of-push xs c) (step (x - 48) (c - 48) (length xs) (value_of xs))

and-parts : (a b : Bool) → (a && b) ≡ true → (a ≡ true) × (b ≡ true)
and-parts true b h = (refl, h)
and-parts false b h = cc

pub digits-push : (xs : List ℕ) (c : ℕ) → all_ascii_digits xs ≡ true → is_ascii_digit c ≡ true
    → all_ascii_digits (xs ++ c ∷ []) ≡ true
digits-push [] c h digit = rw digit refl
digits-push (x ∷ xs) c h digit =
    let parts = and-parts (is_ascii_digit x) (all_ascii_digits xs) h in
    rw (parts.0) (digits-push xs c parts.1 digit)

-- one digit more
pub IsLeading-more : (text : List ℕ) (value i : ℕ) → i < length text → is_ascii_digit (get_or text i 0) ≡ true
    → get_or text i 0 - 48 ≤ 9 → IsLeading text value i
    → IsLeading text (value * 10 + (get_or text i 0 - 48)) (i + 1)
IsLeading-more text value i inside digit nine so = record {
  digits = rw (take_more text i 0 inside) (digits-push (take i text) (get_or text i 0) so.digits digit);
  value_is =
      rw (take_more text i 0 inside)
      (ap (λ v. v * 10 + (get_or text i 0 - 48)) so.value_is ∙ sym (value_of-push (take i text) (get_or text i 0)));
  fits = let f = so.fits in rw (add-one, pow-suc 10 i) (omega arith);
}

pub IsLeading-none : (text : List ℕ) → IsLeading text 0 0
unfolding value_of
IsLeading-none text = record { digits = refl; value_is = refl; fits = omega arith }

number-of : (field : List ℕ) → 0 < length field → all_ascii_digits field ≡ true → is_number field ≡ true
number-of field some digits = grind (arith, common_steps)

-- blanks and digits end no line, and digits are no blanks
inner-blank : (c : ℕ) → is_blank c ≡ true → is_end c ≡ false
inner-blank c h = grind (arith, common_steps)

inner : (c : ℕ) → is_ascii_digit c ≡ true → is_end c ≡ false
inner c h = grind (arith, common_steps)

solid : (c : ℕ) → is_ascii_digit c ≡ true → is_blank c ≡ false
solid c h = grind (arith, common_steps)

-- one of some digits
digit-in : (xs : List ℕ) (k : ℕ) → k < length xs → all_ascii_digits xs ≡ true → is_ascii_digit (get_or xs k 0) ≡ true
digit-in [] k low digits = elim low [ ]
digit-in (x ∷ xs) zero low digits = (and-parts (is_ascii_digit x) (all_ascii_digits xs) digits).0
digit-in (x ∷ xs) (suc k) low digits =
    digit-in xs k (omega arith) (and-parts (is_ascii_digit x) (all_ascii_digits xs) digits).1

-- one of the digits of a number, by its place in the text
digit-at : (text : List ℕ) (value begin end k : ℕ) → IsLeading (drop begin text) value (end - begin) → begin ≤ k → k < end
    → end ≤ length text → is_ascii_digit (get_or text k 0) ≡ true
digit-at text value begin end k leading low high within =
    let field = take (end - begin) (drop begin text) in
    let long : length field ≡ end - begin =
    length-take-le (end - begin) (drop begin text) (omega (arith, length-drop begin text)) in
    let same : get_or field (k - begin) 0 ≡ get_or text k 0 =
    get_or-take (end - begin) (drop begin text) (k - begin) 0 (omega arith) ∙ get_or-drop begin text (k - begin) 0
    ∙ ap (λ i. get_or text i 0) (omega arith) in
    rw (← same) (digit-in field (k - begin) (omega arith) leading.digits)

-- no byte of a number behind blanks ends a line
inside-number : (text : List ℕ) (start value end : ℕ) → IsNumberBehind text start value end → (k : ℕ) → start ≤ k
    → k < end → is_end (get_or text k 0) ≡ false
inside-number text start value end n k low high = elim (cases_lt k n.begin) [
  | inl before ↦ inner-blank (get_or text k 0) (n.blanks k low before)
  | inr from ↦
      inner (get_or text k 0) (digit-at text value n.begin end k n.leading (omega arith) high n.within)
]

-- blanks in front change no field
fields_of-blanks : (line : List ℕ) (i n : ℕ) → i + n ≤ length line → AreBlanks line i (i + n)
    → fields_of (drop i line) ≡ fields_of (drop (i + n) line)
fields_of-blanks line i zero within blanks = ap (λ k. fields_of (drop k line)) (omega arith)
fields_of-blanks line i (suc n) within blanks =
    sym (fields_of-drop line i (omega arith) (blanks i (omega arith) (omega arith)))
    ∙ fields_of-blanks line (i + 1) n (omega arith) (λ k low high. blanks k (omega arith) (omega arith))
    ∙ ap (λ k. fields_of (drop k line)) (omega arith)

blanks-before : (text : List ℕ) (at i j : ℕ) → i ≤ j → j ≤ at → at ≤ length text → AreBlanks text i j
    → fields_of (drop i (take at text)) ≡ fields_of (drop j (take at text))
blanks-before text at i j rises high within blanks =
    let line = take at text in
    let end : i + (j - i) ≡ j = omega arith in
    fields_of-blanks line i (j - i) (omega (arith, length-take-le at text within))
    (λ k low high'. rw (get_or-take at text k 0 (omega arith)) (blanks k low (omega arith)))
    ∙ ap (λ k. fields_of (drop k line)) end

-- the field that a number behind blanks is, in a line that ends later
abbrev field_in : (text : List ℕ) (start value end : ℕ) → IsNumberBehind text start value end → List ℕ
field_in text start value end n = take (end - n.begin) (drop n.begin text)

fields-number : (text : List ℕ) (at start value end : ℕ) (n : IsNumberBehind text start value end) → end ≤ at
    → at ≤ length text → (end < at → is_blank (get_or text end 0) ≡ true)
    → fields_of (drop start (take at text)) ≡ field_in text start value end n ∷ fields_of (drop end (take at text))
fields-number text at start value end n before within blank =
    let some = n.some_blanks in let more = n.some_digits in
    let line = take at text in
    let size : length line ≡ at = length-take-le at text within in
    let field : take (end - n.begin) (drop n.begin line) ≡ field_in text start value end n =
    ap (λ k. take (end - n.begin) (drop n.begin (take k text))) (omega arith)
    ∙ ap (take (end - n.begin)) (drop-take n.begin (at - n.begin) text)
    ∙ take-take (end - n.begin) (at - n.begin) (drop n.begin text) (omega arith) in
    blanks-before text at start n.begin (omega arith) (omega arith) within n.blanks
    ∙ fields_of-at line n.begin end more (omega arith)
    (λ k low high. rw (get_or-take at text k 0 (omega arith))
    (solid (get_or text k 0) (digit-at text value n.begin end k n.leading low high n.within)))
    (λ high. rw (get_or-take at text end 0 (omega arith)) (blank (omega arith)))
    ∙ ap (λ f. f ∷ fields_of (drop end line)) field

digits-of : (text : List ℕ) (start value end : ℕ) (n : IsNumberBehind text start value end)
    → is_number (field_in text start value end n) ≡ true
digits-of text start value end n =
    let some = n.some_digits in let within = n.within in
    let long = length-take-le (end - n.begin) (drop n.begin text) (omega (arith, length-drop n.begin text)) in
    number-of (field_in text start value end n) (omega arith) n.leading.digits

fields_of-nothing : fields_of [] ≡ []
unfolding fields_of
fields_of-nothing = refl

-- no byte before the end of such a line ends it
inside-usual : (letter : ℕ) (text : List ℕ) {src dst number : ℕ} (first second third at : ℕ) → IsLetter letter
    → get_or text 0 0 ≡ letter → IsNumberBehind text 1 src first → IsNumberBehind text first dst second
    → IsNumberBehind text second number third → AreBlanks text third at → (k : ℕ) → k < at
    → is_end (get_or text k 0) ≡ false
inside-usual letter text {src} {dst} {number} first second third at l is_letter a b c blanks k to =
    elim (cases_lt k third) [
      | inr behind ↦ inner-blank (get_or text k 0) (blanks k (omega arith) to)
      | inl third' ↦ elim (cases_lt k second) [
        | inr last ↦ inside-number text second number third c k (omega arith) third'
        | inl second' ↦ elim (cases_lt k first) [
          | inr middle ↦ inside-number text first dst second b k (omega arith) second'
          | inl first' ↦ elim (cases_lt k 1) [
            | inr front ↦ inside-number text 1 src first a k (omega arith) first'
            | inl none ↦ let zero' : k ≡ 0 = omega arith in rw (zero', is_letter) l.inner
          ]
        ]
      ]
    ]

-- a letter, three numbers behind blanks, blanks and byte 10
pub IsUsual-at : (letter : ℕ) (text : List ℕ) {src dst number : ℕ} (first second third at : ℕ) → IsLetter letter
    → get_or text 0 0 ≡ letter → IsNumberBehind text 1 src first → IsNumberBehind text first dst second
    → IsNumberBehind text second number third → third ≤ at → at ≤ third + MOST_BLANKS → at < length text
    → AreBlanks text third at → get_or text at 0 ≡ 10 → IsUsual letter text src dst number at
IsUsual-at letter text {src} {dst} {number} first second third at l is_letter a b c low high within blanks ends =
    let a_blank = a.some_blanks in let a_some = a.some_digits in let a_short = a.short in
    let b_blank = b.some_blanks in let b_some = b.some_digits in let b_short = b.short in
    let c_blank = c.some_blanks in let c_some = c.some_digits in let c_short = c.short in
    let line = take at text in
    let size : length line ≡ at = length-take-le at text (omega arith) in
    let begins : get_or line 0 0 ≡ letter = get_or-take at text 0 0 (omega arith) ∙ is_letter in
    let one : take 1 line ≡ letter ∷ [] =
    ap (take 1) (drop-cons line 0 0 (omega arith)) ∙ ap (λ x. x ∷ []) begins in
    let head : fields_of line ≡ (letter ∷ []) ∷ fields_of (drop 1 line) =
    fields_of-at line 0 1 (omega arith) (omega arith)
    (λ k from to. let none : k ≡ 0 = omega arith in rw (none, begins) l.solid)
    (λ more. rw (get_or-take at text 1 0 (omega arith)) (a.blanks 1 (omega arith) (omega arith)))
    ∙ ap (λ f. f ∷ fields_of (drop 1 line)) one in
    record {
      first = (
        record {
          low = omega arith;
          high = within;
          before = λ k from to is.
              true≢false (sym is ∙ inside-usual letter text first second third at l is_letter a b c blanks k to);
        },
        rw ends refl,
      );
      short = rw size (omega arith);
      plain = rw begins l.plain;
      src_field = field_in text 1 src first a;
      dst_field = field_in text first dst second b;
      number_field = field_in text second number third c;
      fields =
          head ∙ ap (λ fs. (letter ∷ []) ∷ fs)
          (fields-number text at 1 src first a (omega arith) (omega arith)
          (λ more. b.blanks first (omega arith) (omega arith))
          ∙ ap (λ fs. field_in text 1 src first a ∷ fs)
          (fields-number text at first dst second b (omega arith) (omega arith)
          (λ more. c.blanks second (omega arith) (omega arith))
          ∙ ap (λ fs. field_in text first dst second b ∷ fs)
          (fields-number text at second number third c low (omega arith)
          (λ more. blanks third (omega arith) (omega arith))
          ∙ ap (λ fs. field_in text second number third c ∷ fs)
          (blanks-before text at third at low (omega arith) (omega arith) blanks
          ∙ ap fields_of (drop_all at line (omega arith)) ∙ fields_of-nothing))));
      src_digits = digits-of text 1 src first a;
      src_value = sym a.leading.value_is;
      dst_digits = digits-of text first dst second b;
      dst_value = sym b.leading.value_is;
      number_digits = digits-of text second number third c;
      number_value = sym c.leading.value_is;
    }

-- a digit more, by its place in the whole text
pub IsLeading-at : (text : List ℕ) (value start i : ℕ) → start ≤ i → i < length text
    → is_ascii_digit (get_or text i 0) ≡ true → get_or text i 0 - 48 ≤ 9 → IsLeading (drop start text) value (i - start)
    → IsLeading (drop start text) (value * 10 + (get_or text i 0 - 48)) (i + 1 - start)
IsLeading-at text value start i low inside digit nine so =
    let place : start + (i - start) ≡ i = omega arith in
    let same : get_or (drop start text) (i - start) 0 ≡ get_or text i 0 =
    get_or-drop start text (i - start) 0 ∙ ap (λ k. get_or text k 0) place in
    let next : i - start + 1 ≡ i + 1 - start = omega arith in
    let long : i - start < length (drop start text) = omega (arith, length-drop start text) in
    subst (λ k. IsLeading (drop start text) (value * 10 + (get_or text i 0 - 48)) k) next
    (subst (λ d. IsLeading (drop start text) (value * 10 + (d - 48)) (i - start + 1)) same
    (IsLeading-more (drop start text) value (i - start) long (rw same digit) (rw same nine) so))

-- a field that names one of so many nodes
abbrev pub NamesNode : ℕ → List ℕ → Type 0
NamesNode nodes field = (is_number field ≡ true) × ((1 ≤ value_of field) × (value_of field ≤ nodes))

-- the tests of such a line pass
pub ends-pass : (nodes : ℕ) (code : FaultCode) (letter src dst number : List ℕ) → NamesNode nodes src
    → NamesNode nodes dst → is_number number ≡ true → value_of number ≤ GREATEST_CAPACITY
    → first_failed (ends_tests nodes code (letter ∷ src ∷ dst ∷ number ∷ [])) ≡ None
unfolding ends_tests
ends-pass nodes code letter src dst number s d n n_in =
    let s_in = s.1 in let d_in = d.1 in
    let s_least : nat_lt (value_of src) 1 ≡ false = search (std_rules, arith) in
    let s_most : nat_lt nodes (value_of src) ≡ false = search (std_rules, arith) in
    let d_least : nat_lt (value_of dst) 1 ≡ false = search (std_rules, arith) in
    let d_most : nat_lt nodes (value_of dst) ≡ false = search (std_rules, arith) in
    let n_least : nat_lt (value_of number) 0 ≡ false = search (std_rules, arith) in
    let n_most : nat_lt GREATEST_CAPACITY (value_of number) ≡ false = search (std_rules, arith) in
    simp (s.0, s_least, s_most, d.0, d_least, d_most, n, n_least, n_most)
