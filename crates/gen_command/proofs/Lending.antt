-- Lists that are lent, one after another.
use Rattle.std.proofs.Common.{◌≡◌, ◌<◌, ◌+◌, ◌++◌, ◌∷◌, [], ℕ, suc, List, length, map, reverse, take, Result, Ok, Err, sym, ◌∙◌, ap, subst, arith}
use Rattle.std.specs.Prelude.{slice_index_or, IfOk}
use Rattle.std.specs.Borrow.{Bor}
use Rattle.std.specs.Global.{Vec}
use Rattle.std.proofs.Math.Seq.{take-suc}
use Rattle.std.proofs.lemmas.List.{map-append, length-map, reverse-reverse}
use Rattle.cbdc_model.specs.Records.{Shape, Record, journal}
use Rattle.cbdc_model.specs.Coins.{Output, FullTx}
use Rattle.audit.specs.Rows.{read, rows_at, newest_first, journal_in}
use Rattle.audit.specs.declared.place.Place.{Place}
use Rattle.audit.specs.declared.parts.PartVerdict.{PartVerdict}
use Rattle.audit.specs.Parts.{IsPartVerdict}
use Rattle.cut_audit.specs.Cuts.{up_to, IsLeastLast}
use Rattle.cut_audit.specs.Laws.{IsMoment}
use Rattle.gen_command.specs.Watched.{lists_in, IsCutVerdict}

-- one more
pub list_more : (before now : List (Bor (List Record))) (j : Bor (List Record)) (lists : List (Vec Record)) (i : ℕ) (x : Vec Record)
    → i < length lists → x ≡ slice_index_or lists i x
    → now ≡ before ++ j ∷ [] → j.now ≡ x.items → read before ≡ map (λ l. l.items) (take i lists) → read now ≡ map (λ l. l.items) (take (i + 1) lists)
list_more before now j lists i x inside here pushed is so_far =
    let f : Vec Record → List Record = λ y. y.items in
    let next : suc i ≡ i + 1 = omega arith in
    let longer : map f (take (i + 1) lists) ≡ map f (take i lists) ++ (f x ∷ []) =
    ap (λ (k : ℕ). map f (take k lists)) (sym next) ∙ ap (map f) (take-suc lists i x inside)
    ∙ map-append f (take i lists) (slice_index_or lists i x ∷ []) ∙ ap (λ (y : Vec Record). map f (take i lists) ++ (f y ∷ [])) (sym here) in
    ap read pushed ∙ map-append (λ (k : Bor (List Record)). k.now) before (j ∷ []) ∙ ap (λ (l : List (List Record)). l ++ (j.now ∷ [])) so_far
    ∙ ap (λ (l : List Record). map f (take i lists) ++ (l ∷ [])) is ∙ sym longer

-- as many as there are
pub as_many : (lent : List (Bor (List Record))) (lists : List (Vec Record)) → read lent ≡ lists_in lists → length lent ≡ length lists
as_many lent lists same = sym (length-map lent (λ k. k.now)) ∙ ap (λ (l : List (List Record)). length l) same ∙ length-map lists (λ y. y.items)

-- what is said of a cut and of its audit is one verdict
pub verdict_so : {E : Type 0} (K : Shape) (mint : List Output) (handed : List FullTx) (all : List (List Record)) (stamp : ℕ) (places : List Place)
    (r : Result PartVerdict E) → IsLeastLast all stamp
    → ((n : ℕ) → journal n (newest_first all places) ≡ up_to stamp (reverse (journal_in all n))) → IsMoment all (newest_first all places)
    → IfOk r (IsPartVerdict K mint handed (rows_at all places)) → IfOk r (IsCutVerdict K mint handed all)
verdict_so K mint handed all stamp places (Ok v) least lists moment is = record {
  stamp = stamp;
  least = least;
  rows = newest_first all places;
  records_are = lists;
  moment = moment;
  is = subst (λ rs. IsPartVerdict K mint handed rs v) (sym (reverse-reverse (rows_at all places))) is;
}
verdict_so K mint handed all stamp places (Err e) least lists moment is = tt
