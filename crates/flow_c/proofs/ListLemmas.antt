-- The network of the lists has an arc for each place; lists of one value; and errors that are passed on.
use Rattle.std.proofs.Common.{◌≡◌, ◌∙◌, ap, refl, sym, subst, ℕ, zero, suc, List, length, get_or, replicate}
use Rattle.std.proofs.Common.{Result, Ok, Err, MatchResult, IsErrAnd, OnOk, is_ok, true, false}
use Rattle.std.proofs.lemmas.List.FromFn.{length-map-range_with_len}
use Rattle.flow_net.specs.MarkedNodes.{marked}
use Rattle.flow_net.specs.Nets.{Instance}
use Rattle.flow_c.specs.declared.lists.Lent.{Lent}
use Rattle.flow_c.specs.Lists.{network_of, listed_arc}

pub arcs_of : (p : Instance) (lent : Lent) (cap : List ℕ) → p ≡ network_of lent cap
    → length p.net.arcs ≡ length lent.src.now
arcs_of p lent cap e =
    ap (λ q. length q.net.arcs) e
    ∙ length-map-range_with_len (listed_arc lent.src.now lent.dst.now cap) 0 (length lent.src.now)

-- a list of one value has it at each place
pub same_at : {A : Type 0} (n k : ℕ) (x : A) → get_or (replicate n x) k x ≡ x
same_at zero k x = refl
same_at (suc n) zero x = refl
same_at (suc n) (suc k) x = same_at n k x

-- where no cell is marked no node is
pub unmarked : (n v : ℕ) → marked (replicate n false) v ≡ false
unmarked n zero = refl
unmarked n (suc v) = same_at n v false

-- what is said of an error is said of the result that passes it on
pub passed_on : {T E : Type 0} (r : Result T E) (P : T → Type 0) (Q : E → Type 0) (e : E) → IsErrAnd r (λ x. x ≡ e)
    → Q e → MatchResult r P Q
passed_on (Ok x) P Q e h q = absurd h
passed_on (Err x) P Q e h q = subst Q (sym h) q

-- what is said where there is no error
pub where_ok : {T E : Type 0} (r : Result T E) (P : Type 0) → is_ok r ≡ true → OnOk r P → P
where_ok (Ok x) P e h = h
where_ok (Err x) P e h = absurd (cc)
