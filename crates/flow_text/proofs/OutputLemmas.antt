-- How long the pieces of a line are, and bytes written in front of others.
use Prim.Native.String.{String}
use Rattle.std.proofs.Common.{◌≡◌, ℕ, ◌+◌, ◌-◌, ◌^◌, ◌<◌, ◌≤◌, List, [], ◌∷◌, ◌++◌, length, take, drop, set, length-set}
use Rattle.std.proofs.Common.{ap, ◌∙◌, arith, lit≤, length-append, append_assoc}
use Rattle.std.specs.Prelude.{codes, decimal}
use Rattle.std.proofs.lemmas.Fmt.{length-decimal-le_wide}
use Rattle.std.proofs.lemmas.Grind.{drop-set_at}
use Rattle.std.proofs.lemmas.Slice.{between_to_end}
use Rattle.flow_text.specs.FaultTexts.{fault_text}
use Rattle.flow_text.specs.Output.{line_of}
use Rattle.flow_text.specs.declared.faults.FaultCode.{FaultCode}
use Rattle.flow_text.specs.declared.faults.FaultCode.TheVariants.{LineTooLong}

-- the words of a fault are few
pub fault_text_short : (code : FaultCode) → length (fault_text code) ≤ 28
fault_text_short LineTooLong = lit≤ tt
fault_text_short _ = lit≤ tt

-- the digits of a number of 32, 64 or 128 bits
pub decimal_10 : (n : ℕ) → n < 2 ^ 32 → length (decimal n) ≤ 10
decimal_10 n h = length-decimal-le_wide 10 n (omega arith) (omega arith) (omega arith)

pub decimal_20 : (n : ℕ) → n < 2 ^ 64 → length (decimal n) ≤ 20
decimal_20 n h = length-decimal-le_wide 20 n (omega arith) (omega arith) (omega arith)

decimal_39 : (n : ℕ) → n < 2 ^ 128 → length (decimal n) ≤ 39
decimal_39 n h = length-decimal-le_wide 39 n (omega arith) (omega arith) (omega arith)

-- a line of one number, and one of three
pub one_number : (word : String) (a : ℕ) → codes word ++ codes " " ++ decimal a ++ codes "\n" ≡ line_of word (a ∷ [])
unfolding line_of
one_number word a = simp append_assoc

regroup_three : (w s a b c e : List ℕ)
    → w ++ s ++ a ++ s ++ b ++ s ++ c ++ e ≡ w ++ ((s ++ a) ++ ((s ++ b) ++ ((s ++ c) ++ []))) ++ e
regroup_three w s a b c e = simp append_assoc

pub three_numbers : (word : String) (a b c : ℕ)
    → codes word ++ codes " " ++ decimal a ++ codes " " ++ decimal b ++ codes " " ++ decimal c ++ codes "\n"
    ≡ line_of word (a ∷ b ∷ c ∷ [])
unfolding line_of
three_numbers word a b c = regroup_three (codes word) (codes " ") (decimal a) (decimal b) (decimal c) (codes "\n")

-- a line of four numbers, as it grows
regroup : (w s a b c d e : List ℕ)
    → (((((w ++ s ++ a) ++ s ++ b) ++ s ++ c) ++ s ++ d) ++ e)
    ≡ w ++ ((s ++ a) ++ ((s ++ b) ++ ((s ++ c) ++ ((s ++ d) ++ [])))) ++ e
regroup w s a b c d e = simp append_assoc

pub four_numbers : (word : String) (a b c d : ℕ)
    → ((((codes word ++ codes " " ++ decimal a) ++ codes " " ++ decimal b) ++ codes " " ++ decimal c)
    ++ codes " " ++ decimal d) ++ codes "\n" ≡ line_of word (a ∷ b ∷ c ∷ d ∷ [])
unfolding line_of
four_numbers word a b c d =
    regroup (codes word) (codes " ") (decimal a) (decimal b) (decimal c) (decimal d) (codes "\n")

-- the line of a value has 128 bytes at most, and so has that of a flow
pub value_line_short : (value : ℕ) → value < 2 ^ 128 → length (line_of "s" (value ∷ [])) ≤ 128
unfolding line_of
value_line_short value h = simp length-append (omega (arith, decimal_39 value h))

pub flow_line_short : (src dst flow : ℕ) → src < 2 ^ 32 → dst < 2 ^ 32 → flow < 2 ^ 64
    → length (line_of "f" (src ∷ dst ∷ flow ∷ [])) ≤ 128
unfolding line_of
flow_line_short src dst flow s d f =
    simp length-append (omega (arith, decimal_10 src s, decimal_10 dst d, decimal_20 flow f))

-- the bytes from a byte on that was written in front of others
pub written_front : (bytes : List ℕ) (n end byte : ℕ) → length bytes ≡ n → 0 < end → end ≤ n
    → take (n - (end - 1)) (drop (end - 1) (set bytes (end - 1) byte)) ≡ byte ∷ drop end bytes
written_front bytes n end byte long some within =
    let next : end - 1 + 1 ≡ end = omega arith in
    between_to_end (set bytes (end - 1) byte) (end - 1) n (omega (arith, length-set bytes (end - 1) byte))
    ∙ drop-set_at bytes (end - 1) (end - 1) byte (omega arith) (omega arith) ∙ ap (λ k. byte ∷ drop k bytes) next
