-- Reading a verdict file line by line.
use Rattle.std.proofs.Common.{rules, arith, ◌≡◌, ◌≢◌, ℕ, zero, suc, ◌+◌, ◌<◌, ◌^◌, ◌%◌, ◌/◌, Bool, true, false, List, [], ◌∷◌, ◌++◌, length, decimal}
use Rattle.std.proofs.Common.{Option, Some, None, refl, sym, ◌∙◌, ap, append_assoc, cond, get_or}
use Rattle.std.specs.Map.{lookup}
use Rattle.std.proofs.lemmas.Fmt.{decimal_by_steps}
use Rattle.hex.specs.Hex.{encode_lower, encode_with, lower_digits}
use Rattle.std.specs.Prelude.{Err, IsSome}
use Rattle.std.proofs.lemmas.Bool.{true≢false}
use Rattle.base_types.specs.declared.faults.InputKind.TheVariants.{Form, Repeated}
use Rattle.sentinel.specs.Files.{ReadsVerdicts}
use Rattle.sentinel.specs.declared.file.VerdictFault.TheVariants as fault
use Rattle.sentinel.specs.declared.line.Key.{Key}
use Rattle.sentinel.specs.Lines.{Line, IsLine, HasNoLineEnd, BeginsWithLines, is_key, said, spelled, text, word}

-- ---- line feeds

open-append : (a b : List ℕ) → HasNoLineEnd a → HasNoLineEnd b → HasNoLineEnd (a ++ b)
open-append [] b first second = second
open-append (x ∷ a) b first second = (first.0, open-append a b first.1 second)

no_feed : (t : List ℕ) → HasNoLineEnd t → (k : ℕ) → get_or t k 0 ≢ 10
no_feed [] is k at = let bad : 0 ≡ 10 = at in omega arith
no_feed (x ∷ t) is zero at = is.0 at
no_feed (x ∷ t) is (suc k) at = no_feed t is.1 k at

digits_open : HasNoLineEnd lower_digits
digits_open = search rules

hex_open : (bytes : List ℕ) → HasNoLineEnd (encode_with lower_digits bytes)
unfolding encode_with
hex_open [] = tt
hex_open (b ∷ bytes) = (no_feed lower_digits digits_open (b / 16), (no_feed lower_digits digits_open (b % 16), hex_open bytes))

decimal_open : (n : ℕ) → n < 2 ^ 64 → HasNoLineEnd (decimal n)
decimal_open = decimal_by_steps (λ n ds. HasNoLineEnd ds) (λ n small. (omega arith, tt))
    (λ n ds large is. open-append ds ((48 + n % 10) ∷ []) is (omega arith, tt))

word_open : (good : Bool) → HasNoLineEnd (32 ∷ word good)
word_open true = search rules
word_open false = search rules

pub spelled_open : (l : Line) → IsLine l → HasNoLineEnd (spelled l)
spelled_open l is =
    let small : l.index < 2 ^ 64 = omega (arith, is.place) in
    open-append (encode_lower l.tx ++ 32 ∷ decimal l.index) (32 ∷ word l.good)
    (open-append (encode_lower l.tx) (32 ∷ decimal l.index) (hex_open l.tx) (omega arith, decimal_open l.index small))
    (word_open l.good)

-- what ends in a line is not open
pub open_none : (a b bytes : List ℕ) → HasNoLineEnd bytes → bytes ≢ a ++ 10 ∷ b
open_none [] b [] is at = absurd (cc at)
open_none [] b (x ∷ bytes) is at = is.0 (cc at)
open_none (y ∷ a) b [] is at = absurd (cc at)
open_none (y ∷ a) b (x ∷ bytes) is at = open_none a b bytes is.1 (cc at)

-- bytes have one first line
pub one_line : (s t a b : List ℕ) → HasNoLineEnd s → HasNoLineEnd t → s ++ 10 ∷ a ≡ t ++ 10 ∷ b → s ≡ t
one_line [] [] a b first second is = refl
one_line [] (y ∷ t) a b first second is = absurd (second.0 (cc is))
one_line (x ∷ s) [] a b first second is = absurd (first.0 (cc is))
one_line (x ∷ s) (y ∷ t) a b first second is =
    let head : x ≡ y = cc is in
    let tail : s ++ 10 ∷ a ≡ t ++ 10 ∷ b = cc is in
    let rest = one_line s t a b first.1 second.1 tail in
    cc

-- ---- lines so far

-- what a map has of an input
abbrev pub kept_verdict_in : List (Key × Bool) → List ℕ → ℕ → Option Bool
kept_verdict_in entries tx index = lookup (λ (k : Key). is_key tx index k.tx k.index) entries

-- these lines were read and kept, and the next has this number
pub record IsRead (bytes rest : List ℕ) (line : ℕ) (entries : List (Key × Bool)) : Type 0 where
  pub lines : List Line
  pub begins : BeginsWithLines bytes lines rest
  pub count : line ≡ length lines + 1
  pub same : (tx : List ℕ) (index : ℕ) → kept_verdict_in entries tx index ≡ said lines tx index

pub read_none : (bytes : List ℕ) → IsRead bytes bytes 1 []
read_none bytes = record {
  lines = [];
  begins = record { whole = refl; sound = tt };
  count = refl;
  same = λ tx index. refl;
}

module _ (bytes rest line behind : List ℕ) (number : ℕ) (old new : List (Key × Bool)) (key : Key) (good : Bool) where
  pub read_more : IsRead bytes rest number old → rest ≡ line ++ 10 ∷ behind
      → IsLine (record { tx = key.tx; index = key.index; good = good }) → line ≡ spelled (record { tx = key.tx; index = key.index; good = good })
      → kept_verdict_in old key.tx key.index ≡ None
      → ((tx : List ℕ) (index : ℕ) → kept_verdict_in new tx index
      ≡ cond (is_key key.tx key.index tx index) (Some good) (kept_verdict_in old tx index))
      → IsRead bytes behind (number + 1) new
  read_more so_far split form spells absent updates =
      let l : Line = record { tx = key.tx; index = key.index; good = good } in
      let whole : bytes ≡ (text so_far.lines ++ (spelled l ++ 10 ∷ [])) ++ behind =
      so_far.begins.whole ∙ ap (λ (r : List ℕ). text so_far.lines ++ r)
      (split ∙ ap (λ (s : List ℕ). s ++ 10 ∷ behind) spells ∙ sym (append_assoc (spelled l) (10 ∷ []) behind))
      ∙ sym (append_assoc (text so_far.lines) (spelled l ++ 10 ∷ []) behind)
      in
      record {
        lines = l ∷ so_far.lines;
        begins = record { whole = whole; sound = (form, sym (so_far.same key.tx key.index) ∙ absent, so_far.begins.sound) };
        count = let c = so_far.count in omega arith;
        same = λ tx index. updates tx index ∙ ap (λ (o : Option Bool). cond (is_key key.tx key.index tx index) (Some good) o) (so_far.same tx index);
      }

-- ---- what is told of a wrong line

module _ (more : Bool) (bytes rest line behind : List ℕ) (number : ℕ) (entries : List (Key × Bool)) where
  pub told_form : IsRead bytes rest number entries → rest ≡ line ++ 10 ∷ behind → HasNoLineEnd line → ((l : Line) → IsLine l → line ≢ spelled l)
      → ReadsVerdicts more bytes (Err (fault.Bad (record { line = number; kind = Form })))
  told_form so_far split feedless none = (
    so_far.lines,
    rest,
    so_far.begins,
    so_far.count,
    (
      λ empty. open_none line behind [] tt (sym empty ∙ split),
      λ more whole. open_none line behind rest whole split,
      λ l b is at. none l is (one_line line (spelled l) behind b feedless (spelled_open l is) (sym split ∙ at)),
    ),
  )

  pub told_repeated : (l : Line) (v : Bool) → IsRead bytes rest number entries → rest ≡ line ++ 10 ∷ behind → IsLine l → line ≡ spelled l
      → kept_verdict_in entries l.tx l.index ≡ Some v → ReadsVerdicts more bytes (Err (fault.Bad (record { line = number; kind = Repeated })))
  told_repeated l v so_far split form spells found =
      let e : said so_far.lines l.tx l.index ≡ Some v = sym (so_far.same l.tx l.index) ∙ found in
      let at : rest ≡ spelled l ++ 10 ∷ behind = split ∙ ap (λ (s : List ℕ). s ++ 10 ∷ behind) spells in
      let again : IsSome (said so_far.lines l.tx l.index) = rw e (search rules) in
      (so_far.lines, rest, so_far.begins, so_far.count, (l, behind, form, at, again))

pub open_end_told : (bytes rest : List ℕ) (number : ℕ) (entries : List (Key × Bool)) → IsRead bytes rest number entries → HasNoLineEnd rest
    → rest ≢ []
    → ReadsVerdicts false bytes (Err (fault.Bad (record { line = number; kind = Form })))
open_end_told bytes rest number entries so_far feedless some = (
  so_far.lines,
  rest,
  so_far.begins,
  so_far.count,
  (some, λ no. absurd (true≢false (sym no)), λ l b is. open_none (spelled l) b rest feedless),
)
