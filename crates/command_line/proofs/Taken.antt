-- What is taken of the words for files is what stands at their places.
use Rattle.std.proofs.Common.{arith, ◌≡◌, ◌∙◌, ◌++◌, ◌&&◌, ℕ, ◌-◌, Bool, true, false, not, cond, List, [], ◌∷◌, length, map, take, drop, Option, Some}
use Rattle.std.proofs.Common.{None, length-drop, refl, sym, ap, subst, true≢false, codes}
use Rattle.std.specs.Prelude.{find, is_some, nat_eq, option_and_then, slice_get}
use Rattle.std.specs.List.{AllByRecursion, filter, range_with_len}
use Rattle.std.specs.Option.{option_map, option_map_or}
use Rattle.std.specs.Str.{bytes_eq}
use Rattle.clap.proofs.SimpleLemmas.{is_false}
use Rattle.clap.proofs.WalkLemmas.{both}
use Rattle.clap.specs.Faults.{check_fault, defaults_fault, level_fault, settle_fault, walk_fault}
use Rattle.clap.specs.Kinds.{or_else}
use Rattle.clap.specs.Simple.{Shape}
use Rattle.clap.specs.Walk.{Row, Rule, Text, arg_by_index, arg_by_long, finished, has_long, idle, nothing_held, rows_after, settled, walk, walk_from}
use Rattle.clap.specs.Words.{all_of, first_of}
use Rattle.command_line.specs.Asked.{NameCommand, names_or_none}
use Rattle.command_line.specs.Command.{audit_shape, init_shape, run_shape}
use Rattle.command_line.specs.Places.{is_positional, names_option, word_at}
use Rattle.command_line.specs.Taken.{WordsTakenLaw, option_word, positional_words, value_at}
use Rattle.command_line.proofs.Entered.{Entered, below_app, entered_is}
use Rattle.command_line.proofs.Known.{AreKnown, audit_known, init_known, leaf, run_known}
use Rattle.command_line.proofs.Own.{IsNamed, Picks, first, own, own_places, picked}
use Rattle.command_line.proofs.Steps.{Ends, Follows, after, ends, find_is, got, idles, placed}
use Rattle.command_line.proofs.WordValues.{LacksDefault, defaults-values, itself, or_else-nil, same_text, settled-values, values}

-- ---- the values of an id

module _ (s : Shape) (known : AreKnown s) (once : s.args_override_self ≡ false) where
  record Given (id : Text) (ws : List Text) : Type 0 where
    pub values_are : values id (rows_after s.rules [] ws) ≡ got id s.rules false None 1 ws
    pub follows : Follows false false ws

  leaf_values : (id : Text) (ws : List Text) → AllByRecursion (LacksDefault id) s.rules → level_fault s [] nothing_held ws false [] ≡ [] → Given id ws
  leaf_values id ws lacks sound =
      let end = (walk s.rules [] nothing_held ws).held in
      let last = or_else (defaults_fault (settled s.rules end).rows s.rules) (check_fault s (finished s.rules end) false) in
      let outer = or_else-nil (walk_fault s [] (walk_from nothing_held) ws) (or_else (settle_fault s.rules s.args_override_self end) last) sound in
      let settles : settle_fault s.rules false end ≡ [] =
      subst (λ (again : Bool). settle_fault s.rules again end ≡ []) once (or_else-nil (settle_fault s.rules s.args_override_self end) last outer.1).0
      in
      let e : Ends s known once id [] None false None 1 ws end = ends s known once id ws false None idle 1 [] None (idles None tt) outer.0 settles in
      record {
        values_are = defaults-values id s.rules (settled s.rules end).rows lacks ∙ settled-values s.rules id end.rows end.pending e.ready settles
            ∙ e.taken;
        follows = e.follows;
      }

first_values : (id : Text) (rows : List Row) → first_of id rows ≡ slice_get (values id rows) 0
first_values id rows = go (find (λ r. bytes_eq r.id id) rows)
  where
    go : (o : Option Row) → option_and_then (λ (r : Row). slice_get r.values 0) o ≡ slice_get (names_or_none (option_map (λ (r : Row). r.values) o)) 0
    go None = refl
    go (Some r) = refl

-- ---- the commands by their names

apart : {X : Type 0} (other name : Text) → bytes_eq other name ≡ false → bytes_eq name name ≡ true → other ≡ name → X
apart other name differs itself e = absurd (true≢false (sym itself ∙ ap (λ t. bytes_eq t name) (sym e) ∙ differs))

abbrev Named : Text → Shape → Shape → Type 0
Named name is s = s.name ≡ name → s ≡ is

all_init : below_app (Named (codes "init") (leaf init_shape))
all_init = (
  λ e. refl,
  (
    λ e. apart _ _ refl refl e,
    (
      λ e. apart _ _ refl refl e,
      (λ e. apart _ _ refl refl e, (λ e. apart _ _ refl refl e, (λ e. apart _ _ refl refl e, (λ e. apart _ _ refl refl e, tt)))),
    ),
  ),
)

all_run : below_app (Named (codes "run") (leaf run_shape))
all_run = (
  λ e. apart _ _ refl refl e,
  (
    λ e. refl,
    (
      λ e. apart _ _ refl refl e,
      (λ e. apart _ _ refl refl e, (λ e. apart _ _ refl refl e, (λ e. apart _ _ refl refl e, (λ e. apart _ _ refl refl e, tt)))),
    ),
  ),
)

all_audit : below_app (Named (codes "audit") (leaf audit_shape))
all_audit = (
  λ e. apart _ _ refl refl e,
  (
    λ e. apart _ _ refl refl e,
    (λ e. apart _ _ refl refl e, (λ e. apart _ _ refl refl e, (λ e. refl, (λ e. apart _ _ refl refl e, (λ e. apart _ _ refl refl e, tt))))),
  ),
)

-- what the rows of a command have under an id
module _ (name : Text) (s : Shape) (all : below_app (Named name s)) (known : AreKnown s) (once : s.args_override_self ≡ false) (words : List Text)
    (rows : List Row) (m : NameCommand words name rows) where
  record Has (id : Text) : Type 0 where
    pub has : values id rows ≡ got id s.rules false None 1 (drop 2 words)
    pub follows : Follows false false (drop 2 words)

  has_of : (id : Text) → AllByRecursion (LacksDefault id) s.rules → Has id
  has_of id lacks =
      let e : Entered (Named name s) words name rows = entered_is (Named name s) all words name rows m in
      let same : e.shape ≡ s = e.is e.named in
      let sound : level_fault s [] nothing_held (drop 2 words) false [] ≡ [] =
      subst (λ (t : Shape). level_fault t [] nothing_held (drop 2 words) false [] ≡ []) same e.sound in
      let given = leaf_values s known once id (drop 2 words) lacks sound in
      record {
        has = ap (values id) (e.taken ∙ ap (λ (t : Shape). rows_after t.rules [] (drop 2 words)) same) ∙ given.values_are;
        follows = given.follows;
      }

-- ---- places

behind : (words : List Text) → length (drop 2 words) ≡ length words - 2
behind words = length-drop 2 words

own_positional : (words : List Text) → own false false (drop 2 words) ≡ positional_words words
own_positional words =
    own_places words (drop 2 words) 2 (omega arith) refl
    ∙ ap (λ n. map (word_at words) (filter (is_positional words) (range_with_len 2 n))) (behind words)

-- an id that no option has, and one that no place has
no_option_of : (id : Text) (c : List Rule) → AllByRecursion (λ (a : Rule). is_some a.index ≡ false → bytes_eq a.id id ≡ false) c → (name v : Text)
    → placed id (arg_by_long c name) v ≡ []
no_option_of id c all name v = go (arg_by_long c name) refl
  where
    go : (o : Option Rule) → arg_by_long c name ≡ o → placed id o v ≡ []
    go None e = refl
    go (Some a) e =
        let found = find_is (λ (r : Rule). is_some r.index ≡ false → bytes_eq r.id id ≡ false) (λ r. not (is_some r.index) && has_long r name) c a
        all e in
        ap (λ b. cond b (v ∷ []) []) (found.0 (is_false (is_some a.index) (both (not (is_some a.index)) (has_long a name) found.1).0))

no_place_of : (id : Text) (c : List Rule) → AllByRecursion (λ (a : Rule). is_some a.index ≡ true → bytes_eq a.id id ≡ false) c → (k : ℕ) (w : Text)
    → placed id (arg_by_index c k) w ≡ []
no_place_of id c all k w = go (arg_by_index c k) refl
  where
    at : (o : Option ℕ) → option_map_or (λ j. nat_eq j k) o false ≡ true → is_some o ≡ true
    at None e = absurd (true≢false (sym e))
    at (Some j) e = refl

    go : (o : Option Rule) → arg_by_index c k ≡ o → placed id o w ≡ []
    go None e = refl
    go (Some a) e =
        let found = find_is (λ (r : Rule). is_some r.index ≡ true → bytes_eq r.id id ≡ false) (λ r. option_map_or (λ j. nat_eq j k) r.index false) c
        a all e in
        ap (λ b. cond b (w ∷ []) []) (found.0 (at a.index found.1))

-- ---- what each of the files' ids has

-- the next place is always the first, or the first and then the second
data First : ℕ → Type 0 where
  first_place : First 1

data Either : ℕ → Type 0 where
  one : Either 1
  two : Either 2

client_of_run : Picks (codes "client") (leaf run_shape).rules First (λ k l. l)
client_of_run = record {
  no_option = no_option_of (codes "client") (leaf run_shape).rules (λ e. refl, (λ e. refl, (λ e. absurd (true≢false e), (λ e. refl, tt))));
  none = λ k at. refl;
  on = on;
  adds = adds;
}
  where
    on : (k : ℕ) → First k → First (after (arg_by_index (leaf run_shape).rules k) k)
    on k first_place = first_place

    adds : (k : ℕ) → First k → (w : Text) (ws : List Text) → placed (codes "client") (arg_by_index (leaf run_shape).rules k) w ++ ws ≡ w ∷ ws
    adds k first_place w ws = refl

-- a file of the first place alone, and those behind it
abbrev mint_pick : ℕ → List Text → List Text
mint_pick k l = cond (nat_eq k 1) (take 1 l) []

abbrev rest_pick : ℕ → List Text → List Text
rest_pick k l = cond (nat_eq k 1) (drop 1 l) l

mint_of_init : Picks (codes "mint") (leaf init_shape).rules Either mint_pick
mint_of_init = record {
  no_option = no_option_of (codes "mint") (leaf init_shape).rules
      (λ e. refl, (λ e. refl, (λ e. refl, (λ e. refl, (λ e. absurd (true≢false e), (λ e. refl, tt))))));
  none = none;
  on = on;
  adds = adds;
}
  where
    none : (k : ℕ) → Either k → mint_pick k [] ≡ []
    none k one = refl
    none k two = refl

    on : (k : ℕ) → Either k → Either (after (arg_by_index (leaf init_shape).rules k) k)
    on k one = two
    on k two = two

    adds : (k : ℕ) → Either k → (w : Text) (ws : List Text)
        → placed (codes "mint") (arg_by_index (leaf init_shape).rules k) w ++ mint_pick (after (arg_by_index (leaf init_shape).rules k) k) ws
        ≡ mint_pick k (w ∷ ws)
    adds k one w ws = refl
    adds k two w ws = refl

mint_of_audit : Picks (codes "mint") (leaf audit_shape).rules Either mint_pick
mint_of_audit = record {
  no_option = no_option_of (codes "mint") (leaf audit_shape).rules (λ e. absurd (true≢false e), (λ e. refl, (λ e. refl, tt)));
  none = none;
  on = on;
  adds = adds;
}
  where
    none : (k : ℕ) → Either k → mint_pick k [] ≡ []
    none k one = refl
    none k two = refl

    on : (k : ℕ) → Either k → Either (after (arg_by_index (leaf audit_shape).rules k) k)
    on k one = two
    on k two = two

    adds : (k : ℕ) → Either k → (w : Text) (ws : List Text)
        → placed (codes "mint") (arg_by_index (leaf audit_shape).rules k) w ++ mint_pick (after (arg_by_index (leaf audit_shape).rules k) k) ws
        ≡ mint_pick k (w ∷ ws)
    adds k one w ws = refl
    adds k two w ws = refl

clients_of_audit : Picks (codes "client") (leaf audit_shape).rules Either rest_pick
clients_of_audit = record {
  no_option = no_option_of (codes "client") (leaf audit_shape).rules (λ e. refl, (λ e. absurd (true≢false e), (λ e. refl, tt)));
  none = none;
  on = on;
  adds = adds;
}
  where
    none : (k : ℕ) → Either k → rest_pick k [] ≡ []
    none k one = refl
    none k two = refl

    on : (k : ℕ) → Either k → Either (after (arg_by_index (leaf audit_shape).rules k) k)
    on k one = two
    on k two = two

    adds : (k : ℕ) → Either k → (w : Text) (ws : List Text)
        → placed (codes "client") (arg_by_index (leaf audit_shape).rules k) w ++ rest_pick (after (arg_by_index (leaf audit_shape).rules k) k) ws
        ≡ rest_pick k (w ∷ ws)
    adds k one w ws = refl
    adds k two w ws = refl

turned : (a b : Text) → bytes_eq a b ≡ false → bytes_eq b a ≡ false
turned a b e = go (bytes_eq b a) refl
  where
    go : (v : Bool) → bytes_eq b a ≡ v → bytes_eq b a ≡ false
    go true f = absurd (true≢false (sym (itself a) ∙ ap (λ t. bytes_eq a t) (sym (same_text b a f)) ∙ e))
    go false f = f

verdicts_of_run : IsNamed (codes "verdicts") (leaf run_shape).rules
verdicts_of_run = record {
  named = named;
  no_place = no_place_of (codes "verdicts") (leaf run_shape).rules (λ e. absurd (true≢false (sym e)), (λ e. refl, (λ e. refl, (λ e. refl, tt))));
}
  where
    named : (name v : Text) → placed (codes "verdicts") (arg_by_long (leaf run_shape).rules name) v
        ≡ cond (bytes_eq name (codes "verdicts")) (v ∷ []) []
    named name v = go (bytes_eq (codes "verdicts") name) refl (bytes_eq (codes "repeats") name) refl (bytes_eq (codes "help") name) refl
      where
        go : (a : Bool) → bytes_eq (codes "verdicts") name ≡ a → (b : Bool) → bytes_eq (codes "repeats") name ≡ b → (d : Bool)
            → bytes_eq (codes "help") name ≡ d
            → placed (codes "verdicts") (arg_by_long (leaf run_shape).rules name) v ≡ cond (bytes_eq name (codes "verdicts")) (v ∷ []) []
        go true e b f d h =
            let here : bytes_eq name (codes "verdicts") ≡ true = sym (ap (λ t. bytes_eq t (codes "verdicts")) (same_text (codes "verdicts") name e))
            in
            rw (e, here) refl
        go false e true f d h = let here : bytes_eq name (codes "verdicts") ≡ false = turned (codes "verdicts") name e in rw (e, f, here) refl
        go false e false f true h = let here : bytes_eq name (codes "verdicts") ≡ false = turned (codes "verdicts") name e in rw (e, f, h, here) refl
        go false e false f false h = let here : bytes_eq name (codes "verdicts") ≡ false = turned (codes "verdicts") name e in rw (e, f, h, here) refl

-- ---- the law

mint_first : (words : List Text) → slice_get (take 1 (positional_words words)) 0 ≡ slice_get (positional_words words) 0
mint_first words = go (positional_words words)
  where
    go : (l : List Text) → slice_get (take 1 l) 0 ≡ slice_get l 0
    go [] = refl
    go (x ∷ xs) = refl

init_law : (words : List Text) (rows : List Row) → NameCommand words (codes "init") rows
    → first_of (codes "mint") rows ≡ slice_get (positional_words words) 0
init_law words rows m =
    let c = (leaf init_shape).rules in
    let h = has_of (codes "init") (leaf init_shape) all_init init_known refl words rows m (codes "mint") (
      λ e. absurd (true≢false (sym e)),
      (λ e. absurd (true≢false (sym e)), (λ e. absurd (true≢false (sym e)), (λ e. absurd (true≢false (sym e)), (λ e. refl, (λ e. refl, tt))))),
    )
    in
    first_values (codes "mint") rows
    ∙ ap (λ l. slice_get l 0) (h.has ∙ picked (codes "mint") c Either mint_pick mint_of_init (drop 2 words) false None 1 one tt h.follows
    ∙ ap (take 1) (own_positional words)) ∙ mint_first words

run_law : (words : List Text) (rows : List Row) → NameCommand words (codes "run") rows
    → (first_of (codes "verdicts") rows ≡ option_word (codes "verdicts") words)
    × (names_or_none (all_of (codes "client") rows) ≡ positional_words words)
run_law words rows m =
    let c = (leaf run_shape).rules in
    let v = has_of (codes "run") (leaf run_shape) all_run run_known refl words rows m (codes "verdicts")
    (λ e. refl, (λ e. absurd (true≢false (sym e)), (λ e. refl, (λ e. refl, tt)))) in
    let h = has_of (codes "run") (leaf run_shape) all_run run_known refl words rows m (codes "client")
    (λ e. refl, (λ e. absurd (true≢false (sym e)), (λ e. refl, (λ e. refl, tt)))) in (
      first_values (codes "verdicts") rows ∙ ap (λ l. slice_get l 0) v.has
          ∙ first words (codes "verdicts") c verdicts_of_run (drop 2 words) 2 None 1 (omega arith) refl refl tt v.follows
          ∙ ap (λ n. option_and_then (value_at words) (find (names_option (codes "verdicts") words) (range_with_len 2 n))) (behind words),
      h.has ∙ picked (codes "client") c First (λ k l. l) client_of_run (drop 2 words) false None 1 first_place tt h.follows ∙ own_positional words,
    )

audit_law : (words : List Text) (rows : List Row) → NameCommand words (codes "audit") rows
    → (first_of (codes "mint") rows ≡ slice_get (positional_words words) 0)
    × (names_or_none (all_of (codes "client") rows) ≡ drop 1 (positional_words words))
audit_law words rows m =
    let c = (leaf audit_shape).rules in
    let mint = has_of (codes "audit") (leaf audit_shape) all_audit audit_known refl words rows m (codes "mint")
    (λ e. refl, (λ e. refl, (λ e. refl, tt))) in
    let h = has_of (codes "audit") (leaf audit_shape) all_audit audit_known refl words rows m (codes "client")
    (λ e. refl, (λ e. refl, (λ e. refl, tt))) in (
      first_values (codes "mint") rows
          ∙ ap (λ l. slice_get l 0) (mint.has ∙ picked (codes "mint") c Either mint_pick mint_of_audit (drop 2 words) false None 1 one tt
          mint.follows ∙ ap (take 1) (own_positional words)) ∙ mint_first words,
      h.has ∙ picked (codes "client") c Either rest_pick clients_of_audit (drop 2 words) false None 1 one tt h.follows
          ∙ ap (drop 1) (own_positional words),
    )

pub taken_law : WordsTakenLaw
taken_law words rows = (init_law words rows, run_law words rows, audit_law words rows)
