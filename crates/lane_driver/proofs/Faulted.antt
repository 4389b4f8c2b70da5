-- The first answer that is a fault, found in a loop.
use Rattle.std.proofs.Common.{◌≡◌, ℕ, ◌<◌, List, length, get_or, take, map, Result, Ok, Err, IsOk, refl, arith, ap, ◌∙◌, sym, subst}
use Rattle.std.specs.List.{All}
use Rattle.std.proofs.lemmas.List.{get_or_default, map-id}
use Rattle.std.proofs.lemmas.List.Elements.{All-map}
use Rattle.cbdc_types.specs.declared.calls.NodeFault.{NodeFault}
use Rattle.lane_driver.specs.Calls.{shard}
use Rattle.lane_driver.specs.Gathering.{FirstFault}

pub fault_here : {X A : Type 0} (cs : List (ℕ × X)) (answers : List (Result A NodeFault)) (n : ℕ) (x : Result A NodeFault) (f : NodeFault) (c : ℕ × X)
    → n < length answers → length answers ≡ length cs → x ≡ get_or answers n x → x ≡ Err f → All IsOk (take n answers)
    → FirstFault shard cs answers (get_or cs n c).0 f
fault_here cs answers n x f c h same e is ok = record {
  place = n;
  call = λ d. ap (λ p. p.0) (get_or_default cs n d c (omega arith));
  inside = omega arith;
  fault = λ a. get_or_default answers n a x h ∙ (sym e ∙ is);
  before = ok;
}

pub all_ok : {A Y : Type 0} (f : Y → A) (ys : List Y) (xs answers : List (Result A NodeFault)) (n : ℕ) → n ≡ length xs
    → map (λ y. Ok (f y)) ys ≡ xs → map (λ x. x) xs ≡ take (length xs) answers → All IsOk (take n answers)
all_ok {A = A} f ys xs answers n e made so =
    let P : List (Result A NodeFault) → Type 0 = λ zs. All IsOk zs in
    subst (λ k. All IsOk (take k answers)) (sym e)
    (subst P (made ∙ (sym (map-id xs) ∙ so)) (All-map (λ (r : Result A NodeFault). IsOk r) (λ y. Ok (f y)) ys (λ k d h. refl)))
