-- One word of a command after another, as clap takes it where it finds no fault.
use Rattle.std.proofs.Common.{◌≡◌, ◌∙◌, ◌⊎◌, ◌++◌, ◌&&◌, ◌||◌, ℕ, zero, suc, Bool, true, false, not, cond, List, [], ◌∷◌, length, Option, Some, None}
use Rattle.std.proofs.Common.{append-nil, append_assoc, inl, inr, refl, sym, ap, subst, true≢false}
use Rattle.std.specs.Prelude.{drop, encode_utf8, find, is_some, slice_get}
use Rattle.std.specs.List.{AllByRecursion, fold}
use Rattle.std.specs.Option.{option_map, option_map_or}
use Rattle.std.specs.Str.{bytes_eq, chars}
use Rattle.clap.proofs.SimpleLemmas.{is_false}
use Rattle.clap.proofs.WalkLemmas.{both}
use Rattle.clap.specs.Faults.{bundle_step_fault, flag_word_fault, flags_fault, long_fault, option_fault, other_fault, positional_fault, react_fault}
use Rattle.clap.specs.Faults.{settle_fault, step_fault, stray_fault, turn_fault, use_fault, walk_fault}
use Rattle.clap.specs.Kinds.{or_else}
use Rattle.clap.specs.Lexer.{long_of, short_of}
use Rattle.clap.specs.Simple.{Shape}
use Rattle.clap.specs.Walk.{Held, Outcome, Row, Rule, Text, Waiting, Walk, after_flag, after_step, arg_by_id, arg_by_index, arg_by_long, arg_by_short}
use Rattle.clap.specs.Walk.{bundle_met, bundle_step, has_long, has_short, idle, is_multiple, is_pending, long_word, most_values, next_position}
use Rattle.clap.specs.Walk.{option, plain, plain_word, positional, positional_held, reacted, settled_rows, subcommand_met, subcommand_or_other}
use Rattle.clap.specs.Walk.{short_or_plain, takes_several, takes_values, to_positional, used, value, walked}
use Rattle.clap.specs.declared.error.kind.ErrorKind.TheVariants.{InvalidSubcommand, TooManyValues, UnknownArgument}
use Rattle.command_line.specs.Places.{is_dashes}
use Rattle.command_line.proofs.WordValues.{IsPending, IsTaken, Pending, itself, or_else-nil, pending_values, same_text, settled-values, settles}
use Rattle.command_line.proofs.WordValues.{taken, values, used-values}

-- ---- rules

-- a flag, whose use is told as a fault
pub record IsFlag (a : Rule) : Type 0 where
  pub takes : takes_values a ≡ false
  pub told : (rows : List Row) → use_fault false a [] rows ≡ [] → ⊥

-- an option with one value
pub record IsOption (c : List Rule) (a : Rule) : Type 0 where
  pub named : is_some a.index ≡ false
  pub takes : takes_values a ≡ true
  pub most : most_values a ≡ 1
  pub wants : (rows : List Row) → use_fault false a [] rows ≡ [] → ⊥
  pub found : arg_by_id c a.id ≡ Some a
  pub taken : IsTaken a
  pub short : (x : ℕ) → has_short a x ≡ false

-- an argument with a place of its own
pub record IsPlace (c : List Rule) (a : Rule) : Type 0 where
  pub found : arg_by_id c a.id ≡ Some a
  pub taken : IsTaken a
  pub last : a.trailing_var_arg ≡ false

abbrev pub IsKnown : List Rule → Rule → Type 0
IsKnown c a = (is_some a.index ≡ false → IsFlag a ⊎ IsOption c a) × (is_some a.index ≡ true → IsPlace c a)

pub find_is : {X : Type 0} (P : X → Type 0) (test : X → Bool) (xs : List X) (x : X) → AllByRecursion P xs → find test xs ≡ Some x
    → P x × (test x ≡ true)
find_is P test [] x all e = absurd (cc)
find_is P test (y ∷ ys) x all e = step (test y) refl (λ rest. find_is P test ys x all.1 rest)
  where
    step : (b : Bool) → test y ≡ b → (find test ys ≡ Some x → P x × (test x ≡ true)) → P x × (test x ≡ true)
    step true is more =
        let here : Some y ≡ Some x = rw is at e in
        let same : y ≡ x = cc in
        (subst P same all.0, ap test (sym same) ∙ is)
    step false is more = more (rw is at e)

pub stray_is : (s : Shape) → stray_fault s ≡ [] → ⊥
stray_is s e = go s.is_leaf e
  where
    go : (b : Bool) → cond b (UnknownArgument ∷ []) (UnknownArgument ∷ InvalidSubcommand ∷ []) ≡ [] → ⊥
    go true e = absurd (cc)
    go false e = absurd (cc)

-- ---- states

abbrev pub held : List Row → Pending → Held
held rows p = record { rows = rows; pending = p; skip = 0 }

abbrev pub walk_at : List Row → Pending → Waiting → ℕ → Bool → Walk
walk_at rows p waiting position trailing = record
    { held = held rows p; waiting = waiting; position = position; is_trailing = trailing; stopped = None }

-- what waits for a next word: no option, or one whose value is to come
pub data Waits (c : List Rule) : Option Rule → Waiting → Pending → Type 0 where
  idles : (p : Pending) → IsPending c p → Waits c None idle p
  goes_on : (p : Pending) → IsPending c p → Waits c None positional p
  awaits : (a : Rule) → IsOption c a → Waits c (Some a) (option a.id) (Some (a.id, []))

-- ---- what each word adds to the values of an id

abbrev pub placed : Text → Option Rule → Text → List Text
placed id None w = []
placed id (Some a) w = cond (bytes_eq a.id id) (w ∷ []) []

abbrev pub after : Option Rule → ℕ → ℕ
after None k = k
after (Some a) k = next_position a k

-- by what the words behind it add: whether they are trailing, which option waits, and the next place
abbrev pub Rest : Type 0
Rest = Bool → Option (Option Rule) → ℕ → List Text

abbrev pub reads : Text → List Rule → ℕ → Text → Bool → Option (Text × Option Text) → Rest → List Text
reads id c k w true o rest = rest true None k
reads id c k w false None rest = placed id (arg_by_index c k) w ++ rest false None (after (arg_by_index c k) k)
reads id c k w false (Some (name, Some v)) rest = placed id (arg_by_long c name) v ++ rest false None k
reads id c k w false (Some (name, None)) rest = rest false (Some (arg_by_long c name)) k

abbrev pub got : Text → List Rule → Bool → Option (Option Rule) → ℕ → List Text → List Text
got id c t g k [] = []
got id c true g k (w ∷ ws) = placed id (arg_by_index c k) w ++ got id c true None (after (arg_by_index c k) k) ws
got id c false (Some m) k (w ∷ ws) = placed id m w ++ got id c false None k ws
got id c false None k (w ∷ ws) = reads id c k w (is_dashes w) (long_of w) (λ t g j. got id c t g j ws)

-- each option is followed by its value
abbrev pub FollowsBy : Bool → Option (Text × Option Text) → Type 0 → Type 0 → Type 0
FollowsBy true o given free = Unit {0}
FollowsBy false None given free = free
FollowsBy false (Some (name, Some v)) given free = free
FollowsBy false (Some (name, None)) given free = given

abbrev pub Follows : Bool → Bool → List Text → Type 0
Follows true g ws = Unit {0}
Follows false true [] = ⊥
Follows false false [] = Unit {0}
Follows false true (w ∷ ws) = (is_dashes w ≡ false) × (long_of w ≡ None) × Follows false false ws
Follows false false (w ∷ ws) = FollowsBy (is_dashes w) (long_of w) (Follows false true ws) (Follows false false ws)

abbrev pub maybe : Option Rule → Option (Option Rule)
maybe None = None
maybe (Some a) = Some (Some a)

abbrev pub all_taken : Text → List Row → Pending → List Text
all_taken id rows p = values id rows ++ pending_values id p

-- a word that was taken without a fault
pub record OneStep (id : Text) (c : List Rule) (rows : List Row) (p : Pending) (t : Bool) (g : Option Rule) (waiting : Waiting) (k : ℕ) (word : Text)
    : Type 0 where
  pub trailing : Bool
  pub given : Option Rule
  pub waits : Waiting
  pub rows_now : List Row
  pub pending : Pending
  pub place : ℕ
  pub is : walked c [] (walk_at rows p waiting k t) word ≡ walk_at rows_now pending waits place trailing
  pub state : Waits c given waits pending
  pub adds : List Text
  pub taken : all_taken id rows_now pending ≡ all_taken id rows p ++ adds
  pub got_on : (ws : List Text) → got id c t (maybe g) k (word ∷ ws) ≡ adds ++ got id c trailing (maybe given) place ws
  pub follows : (ws : List Text) → Follows trailing (is_some given) ws → Follows t (is_some g) (word ∷ ws)

-- ---- values that join

joins : (id : Text) (rows : List Row) (q : Text × List Text) (word b : Text) → q.0 ≡ b
    → all_taken id rows (Some (q.0, q.1 ++ word ∷ [])) ≡ all_taken id rows (Some q) ++ cond (bytes_eq b id) (word ∷ []) []
joins id rows q word b same = go (bytes_eq q.0 id) refl
  where
    go : (v : Bool) → bytes_eq q.0 id ≡ v → values id rows ++ cond (bytes_eq q.0 id) (q.1 ++ word ∷ []) []
        ≡ (values id rows ++ cond (bytes_eq q.0 id) q.1 []) ++ cond (bytes_eq b id) (word ∷ []) []
    go true e =
        let here : bytes_eq b id ≡ true = ap (λ t. bytes_eq t id) (sym same) ∙ e in
        rw (e, here) (sym (append_assoc (values id rows) q.1 (word ∷ [])))
    go false e =
        let here : bytes_eq b id ≡ false = ap (λ t. bytes_eq t id) (sym same) ∙ e in
        rw (e, here) (sym (append-nil (values id rows ++ [])))

nothing_yet : (b : Bool) → cond {A = List Text} b [] [] ≡ []
nothing_yet true = refl
nothing_yet false = refl

walks : (h g : Held) (w v : Waiting) (j k : ℕ) (t u : Bool) → h ≡ g → w ≡ v → j ≡ k → t ≡ u
    → ◌≡◌ {A = Walk} (record { held = h; waiting = w; position = j; is_trailing = t; stopped = None })
    (record { held = g; waiting = v; position = k; is_trailing = u; stopped = None })
walks h g w v j k t u a b d e = λ i. record { held = a i; waiting = b i; position = d i; is_trailing = e i; stopped = None }

or_false : (a b : Bool) → b ≡ false → (a || b) ≡ a
or_false true b e = refl
or_false false b e = e

module _ (s : Shape) (known : AllByRecursion (IsKnown s.rules) s.rules) (once : s.args_override_self ≡ false) where
  abbrev c : List Rule
  c = s.rules

  by_name : (test : Rule → Bool) (a : Rule) → find (λ r. not (is_some r.index) && test r) c ≡ Some a → (IsFlag a ⊎ IsOption c a) × (test a ≡ true)
  by_name test a e =
      let is = find_is (IsKnown c) (λ r. not (is_some r.index) && test r) c a known e in
      let parts = both (not (is_some a.index)) (test a) is.1 in
      (is.0.0 (is_false (is_some a.index) parts.0), parts.1)

  by_index : (k : ℕ) (a : Rule) → arg_by_index c k ≡ Some a → IsPlace c a × (is_some a.index ≡ true)
  by_index k a e =
      let is = find_is (IsKnown c) (λ r. option_map_or (λ j. Rattle.std.specs.Prelude.nat_eq j k) r.index false) c a known e in
      let some : is_some a.index ≡ true = has a.index is.1 in
      (is.0.1 some, some)
    where
      has : (o : Option ℕ) → option_map_or (λ j. Rattle.std.specs.Prelude.nat_eq j k) o false ≡ true → is_some o ≡ true
      has None e = absurd (true≢false (sym e))
      has (Some j) e = refl

  -- where a word goes to a place, there is one
  pub place_of : (k : ℕ) (rows : List Row) (p : Pending) → step_fault s k (held rows p) value ≡ []
      → (b : Rule) × (arg_by_index c k ≡ Some b) × IsPlace c b × (is_some b.index ≡ true) × (positional_fault c false b (held rows p) ≡ [])
  place_of k rows p e = go (arg_by_index c k) refl
    where
      go : (o : Option Rule) → arg_by_index c k ≡ o
          → (b : Rule) × (arg_by_index c k ≡ Some b) × IsPlace c b × (is_some b.index ≡ true) × (positional_fault c false b (held rows p) ≡ [])
      go None is = let stray : stray_fault s ≡ [] = rw is at e in absurd (stray_is s stray)
      go (Some b) is =
          let there = by_index k b is in
          let fault : positional_fault c s.args_override_self b (held rows p) ≡ [] = rw is at e in
          (b, is, there.0, there.1, rw once at fault)

  -- ---- a word that goes to a place

  record Placed (id : Text) (rows : List Row) (p : Pending) (b : Rule) (word : Text) : Type 0 where
    pub rows_now : List Row
    pub pending : Pending
    pub is : positional_held c b word (held rows p) ≡ held rows_now pending
    pub ready : IsPending c pending
    pub taken : all_taken id rows_now pending ≡ all_taken id rows p ++ cond (bytes_eq b.id id) (word ∷ []) []

  placed_in : (id : Text) (rows : List Row) (p : Pending) (b : Rule) (word : Text) → IsPlace c b → IsPending c p
      → positional_fault c false b (held rows p) ≡ [] → Placed id rows p b word
  placed_in id rows None b word place ready fault = record {
    rows_now = rows;
    pending = Some (b.id, word ∷ []);
    is = refl;
    ready = (b, place.found, refl, place.taken);
    taken = ap (λ vs. vs ++ cond (bytes_eq b.id id) (word ∷ []) []) (sym (append-nil (values id rows)));
  }
  placed_in id rows (Some q) b word place ready fault = go (is_pending b (Some q) && takes_several b) refl
    where
      go : (v : Bool) → (is_pending b (Some q) && takes_several b) ≡ v → Placed id rows (Some q) b word
      go true e =
          let same : q.0 ≡ b.id = same_text q.0 b.id (both (is_pending b (Some q)) (takes_several b) e).0 in
          record {
            rows_now = rows;
            pending = Some (q.0, q.1 ++ word ∷ []);
            is = rw e refl;
            ready = ready;
            taken = joins id rows q word b.id same;
          }
      go false e =
          let sound : settle_fault c false (held rows (Some q)) ≡ [] = rw e at fault in
          record {
            rows_now = settled_rows c (Some q) rows;
            pending = Some (b.id, word ∷ []);
            is = rw e refl;
            ready = (b, place.found, refl, place.taken);
            taken = ap (λ vs. vs ++ cond (bytes_eq b.id id) (word ∷ []) []) (settled-values c id rows (Some q) ready sound);
          }

  waits_on : (m : Bool) (p : Pending) → IsPending c p → Waits c None (cond m positional idle) p
  waits_on true p ready = goes_on p ready
  waits_on false p ready = idles p ready

  pending_of : (w : Waiting) (p : Pending) → Waits c None w p → IsPending c p
  pending_of w p (idles q ready) = ready
  pending_of w p (goes_on q ready) = ready

  place_step : (id : Text) (t : Bool) (w : Waiting) (k : ℕ) (rows : List Row) (p : Pending) (word : Text) → Waits c None w p
      → step_fault s k (held rows p) value ≡ []
      → walked c [] (walk_at rows p w k t) word ≡ to_positional c (arg_by_index c k) word (walk_at rows p w k t) (held rows p)
      → ((ws : List Text) → got id c t None k (word ∷ ws) ≡ placed id (arg_by_index c k) word ++ got id c t None (after (arg_by_index c k) k) ws)
      → ((ws : List Text) → Follows t false ws → Follows t false (word ∷ ws)) → OneStep id c rows p t None w k word
  place_step id t w k rows p word state fault met own follow =
      let there = place_of k rows p fault in
      let b = there.0 in
      let in_place = placed_in id rows p b word there.2 (pending_of w p state) there.4 in
      record {
        trailing = t;
        given = None;
        waits = cond (is_multiple b) positional idle;
        rows_now = in_place.rows_now;
        pending = in_place.pending;
        place = next_position b k;
        is = met ∙ ap (λ (o : Option Rule). to_positional c o word (walk_at rows p w k t) (held rows p)) there.1
            ∙ walks (positional_held c b word (held rows p)) (held in_place.rows_now in_place.pending) (cond (is_multiple b) positional idle)
            (cond (is_multiple b) positional idle)
            (next_position b k) (next_position b k) (t || b.trailing_var_arg) t in_place.is refl refl (or_false t b.trailing_var_arg there.2.last);
        state = waits_on (is_multiple b) in_place.pending in_place.ready;
        adds = cond (bytes_eq b.id id) (word ∷ []) [];
        taken = in_place.taken;
        got_on = λ ws. own ws ∙ ap (λ (o : Option Rule). placed id o word ++ got id c t None (after o k) ws) there.1;
        follows = follow;
      }

  pub trailing_step : (id : Text) (w : Waiting) (k : ℕ) (rows : List Row) (p : Pending) (word : Text) → Waits c None w p
      → turn_fault s [] (walk_at rows p w k true) word ≡ []
      → OneStep id c rows p true None w k word
  unfolding walked
  trailing_step id w k rows p word state fault = place_step id true w k rows p word state fault refl (λ ws. refl) (λ ws follow. tt)

  -- an option waits for its value behind a `--`: that is a fault
  waits_ever : (rows : List Row) (a : Rule) → IsOption c a → settle_fault c false (held rows (Some (a.id, []))) ≡ [] → ⊥
  waits_ever rows a is fault = let wants : use_fault false a [] rows ≡ [] = rw is.found at fault in is.wants rows wants

  pub never_placed : (k : ℕ) (rows : List Row) (a : Rule) → IsOption c a → step_fault s k (held rows (Some (a.id, []))) value ≡ [] → ⊥
  never_placed k rows a is fault = go (is_pending b (Some (a.id, [])) && takes_several b) refl
    where
      there : (b : Rule) × (arg_by_index c k ≡ Some b) × IsPlace c b × (is_some b.index ≡ true)
          × (positional_fault c false b (held rows (Some (a.id, []))) ≡ [])
      there = place_of k rows (Some (a.id, [])) fault

      b : Rule
      b = there.0

      go : (v : Bool) → (is_pending b (Some (a.id, [])) && takes_several b) ≡ v → ⊥
      go true e =
          let same : a.id ≡ b.id = same_text a.id b.id (both (is_pending b (Some (a.id, []))) (takes_several b) e).0 in
          let found : Some a ≡ Some b = sym is.found ∙ ap (arg_by_id c) same ∙ there.2.found in
          let one : a ≡ b = cc in
          true≢false (sym there.3 ∙ sym (ap (λ (r : Rule). is_some r.index) one) ∙ is.named)
      go false e = let settle : settle_fault c false (held rows (Some (a.id, []))) ≡ [] = rw e at there.4 in waits_ever rows a is settle

  -- ---- an option

  reacts_told : (a : Rule) (rows : List Row) (p : Pending) → IsFlag a → react_fault c false a [] (held rows p) ≡ [] → ⊥
  reacts_told a rows p is fault = is.told (settled_rows c p rows)
      (or_else-nil (settle_fault c false (held rows p)) (use_fault false a [] (settled_rows c p rows)) fault).1

  flag_told : (a : Rule) (v : Option Text) (rows : List Row) (p : Pending) → IsFlag a → long_fault c false (Some a) v (held rows p) ≡ [] → ⊥
  flag_told a (Some v) rows p is fault = let told : TooManyValues ∷ [] ≡ [] = rw is.takes at fault in absurd (cc)
  flag_told a None rows p is fault =
      let told : react_fault c false a [] (held rows p) ≡ [] = rw is.takes at fault in
      reacts_told a rows p is told

  pub record Long (name : Text) (v : Option Text) (rows : List Row) (p : Pending) : Type 0 where
    pub a : Rule
    pub named : arg_by_long c name ≡ Some a
    pub is : IsOption c a
    pub sound : option_fault c false a v (held rows p) ≡ []

  -- an option is known, and so is what it asks for
  pub long_is : (name : Text) (v : Option Text) (rows : List Row) (p : Pending) → long_fault c false (arg_by_long c name) v (held rows p) ≡ []
      → Long name v rows p
  long_is name v rows p fault = go (arg_by_long c name) refl
    where
      go : (o : Option Rule) → arg_by_long c name ≡ o → Long name v rows p
      go None is = let none : UnknownArgument ∷ [] ≡ [] = rw is at fault in absurd (cc)
      go (Some a) is =
          let here : long_fault c false (Some a) v (held rows p) ≡ [] = rw is at fault in
          elim (by_name (λ r. has_long r name) a is).0 [
            | inl flag ↦ absurd (flag_told a v rows p flag here)
            | inr opt ↦
                let sound : option_fault c false a v (held rows p) ≡ [] = rw opt.takes at here in
                record { a = a; named = is; is = opt; sound = sound }
          ]

  pub option_step : (id : Text) (w : Waiting) (k : ℕ) (rows : List Row) (p : Pending) (word name : Text) (v : Option Text) → Waits c None w p
      → is_dashes word ≡ false → long_of word ≡ Some (name, v)
      → long_fault c false (arg_by_long c name) v (held rows p) ≡ []
      → walked c [] (walk_at rows p w k false) word
      ≡ after_step c word (walk_at rows p w k false) (long_word c w word name v (held rows p)).0 (long_word c w word name v (held rows p)).1
      → OneStep id c rows p false None w k word
  option_step id w k rows p word name (Some v) state dashes is_long fault met =
      let l = long_is name (Some v) rows p fault in
      let parts = or_else-nil (settle_fault c false (held rows p)) (use_fault false l.a (v ∷ []) (settled_rows c p rows)) l.sound in
      record {
        trailing = false;
        given = None;
        waits = idle;
        rows_now = used l.a (v ∷ []) (settled_rows c p rows);
        pending = None;
        place = k;
        is = met ∙ rw (l.named, l.is.takes) refl;
        state = idles None tt;
        adds = cond (bytes_eq l.a.id id) (v ∷ []) [];
        taken = append-nil (values id (used l.a (v ∷ []) (settled_rows c p rows)))
            ∙ used-values id l.a (v ∷ []) (settled_rows c p rows) l.is.taken parts.1
            ∙ ap (λ vs. vs ++ cond (bytes_eq l.a.id id) (v ∷ []) []) (settled-values c id rows p (pending_of w p state) parts.0);
        got_on = λ ws. rw (dashes, is_long, l.named) refl;
        follows = λ ws follow. rw (dashes, is_long) follow;
      }
  option_step id w k rows p word name None state dashes is_long fault met =
      let l = long_is name None rows p fault in
      record {
        trailing = false;
        given = Some l.a;
        waits = option l.a.id;
        rows_now = settled_rows c p rows;
        pending = Some (l.a.id, []);
        place = k;
        is = met ∙ rw (l.named, l.is.takes) refl;
        state = awaits l.a l.is;
        adds = [];
        taken = ap (λ vs. values id (settled_rows c p rows) ++ vs) (nothing_yet (bytes_eq l.a.id id)) ∙ append-nil (values id (settled_rows c p rows))
            ∙ settled-values c id rows p (pending_of w p state) l.sound ∙ sym (append-nil (all_taken id rows p));
        got_on = λ ws. rw (dashes, is_long, l.named) refl;
        follows = λ ws follow. rw (dashes, is_long) follow;
      }

  -- ---- a word that is no option

  -- a bundle of short flags is a fault, so the word is none
  bundle_none : (k : ℕ) (flags : Text) (rows : List Row) (p : Pending) → flags_fault c false k flags 0 (held rows p) ≡ []
      → bundle_met c k flags 0 plain (held rows p) ≡ (held rows p, plain)
  unfolding bundle_met flags_fault
  bundle_none zero flags rows p fault = refl
  bundle_none (suc k) flags rows p fault = go (slice_get (chars flags) 0) fault
    where
      go : (o : Option ℕ) → bundle_step_fault c false o flags 0 (held rows p) (flags_fault c false k) ≡ []
          → bundle_step c o flags 0 plain (held rows p) (bundle_met c k) ≡ (held rows p, plain)
      go None e = refl
      go (Some x) e = flag (arg_by_short c x) refl
        where
          flag : (o : Option Rule) → arg_by_short c x ≡ o → bundle_step c (Some x) flags 0 plain (held rows p) (bundle_met c k) ≡ (held rows p, plain)
          flag None is = let none : UnknownArgument ∷ [] ≡ [] = rw is at e in absurd (cc)
          flag (Some a) is =
              let known_as = by_name (λ r. has_short r x) a is in
              elim known_as.0 [
                | inl f ↦
                    let rest = drop (length (encode_utf8 x)) flags in
                    let told : or_else (react_fault c false a [] (held rows p)) (flags_fault c false k rest 0 (reacted c a [] (held rows p))) ≡ [] =
                    rw (is, f.takes) at e in
                    absurd (reacts_told a rows p f
                    (or_else-nil (react_fault c false a [] (held rows p)) (flags_fault c false k rest 0 (reacted c a [] (held rows p))) told).0)
                | inr opt ↦ absurd (true≢false (sym known_as.1 ∙ opt.short x))
              ]

  -- what is left of a word behind the marks of an option
  pub plain_is : (w : Waiting) (word : Text) (rows : List Row) (p : Pending) → flag_word_fault c false None word (held rows p) ≡ []
      → short_or_plain c w word (short_of word) (held rows p) ≡ plain_word c w word (held rows p)
  plain_is w word rows p fault = go (short_of word) refl
    where
      go : (o : Option Text) → short_of word ≡ o → short_or_plain c w word o (held rows p) ≡ plain_word c w word (held rows p)
      go None is = refl
      go (Some flags) is =
          let here : flags_fault c false (length flags) flags 0 (held rows p) ≡ [] = rw is at fault in
          ap (λ (r : Held × Outcome). after_flag c w word r.0 r.1) (bundle_none (length flags) flags rows p here)

  -- ---- a word that no `--` stands before

  none_met : (w : Waiting) (word : Text) → subcommand_met [] w word ≡ None
  none_met idle word = refl
  none_met (option id) word = refl
  none_met positional word = refl

  walked_is : (w : Waiting) (k : ℕ) (rows : List Row) (p : Pending) (word : Text)
      → walked c [] (walk_at rows p w k false) word
      ≡ after_step c word (walk_at rows p w k false) (subcommand_or_other c None w k word (held rows p)).0
      (subcommand_or_other c None w k word (held rows p)).1
  unfolding walked
  walked_is w k rows p word =
      ap (λ (o : Option Text). after_step c word (walk_at rows p w k false) (subcommand_or_other c o w k word (held rows p)).0
      (subcommand_or_other c o w k word (held rows p)).1) (none_met w word)

  record Turn (w : Waiting) (k : ℕ) (rows : List Row) (p : Pending) (word : Text) : Type 0 where
    pub other : other_fault s None word (held rows p) ≡ []
    pub step : step_fault s k (subcommand_or_other c None w k word (held rows p)).0 (subcommand_or_other c None w k word (held rows p)).1 ≡ []

  turn_is : (w : Waiting) (k : ℕ) (rows : List Row) (p : Pending) (word : Text) → turn_fault s [] (walk_at rows p w k false) word ≡ []
      → Turn w k rows p word
  turn_is w k rows p word fault =
      let h = held rows p in
      let both_of = λ (o : Option Text). or_else (other_fault s o word h)
      (step_fault s k (subcommand_or_other c o w k word h).0 (subcommand_or_other c o w k word h).1) in
      let here : both_of None ≡ [] = subst (λ (o : Option Text). both_of o ≡ []) (none_met w word) fault in
      let parts = or_else-nil (other_fault s None word h)
      (step_fault s k (subcommand_or_other c None w k word h).0 (subcommand_or_other c None w k word h).1) here in
      record { other = parts.0; step = parts.1 }

  dashes_step : (id : Text) (w : Waiting) (k : ℕ) (rows : List Row) (p : Pending) (word : Text) → Waits c None w p → is_dashes word ≡ true
      → OneStep id c rows p false None w k word
  dashes_step id w k rows p word state dashes = record {
    trailing = true;
    given = None;
    waits = w;
    rows_now = rows;
    pending = p;
    place = k;
    is = walked_is w k rows p word ∙ rw dashes refl;
    state = state;
    adds = [];
    taken = sym (append-nil (all_taken id rows p));
    got_on = λ ws. rw dashes refl;
    follows = λ ws follow. rw dashes tt;
  }

  plain_step : (id : Text) (w : Waiting) (k : ℕ) (rows : List Row) (p : Pending) (word : Text) → Waits c None w p → is_dashes word ≡ false
      → long_of word ≡ None → Turn w k rows p word
      → OneStep id c rows p false None w k word
  plain_step id w k rows p word state dashes is_long turn =
      let word_fault : flag_word_fault c false None word (held rows p) ≡ [] = rw (dashes, is_long, once) at turn.other in
      let plain = plain_is w word rows p word_fault ∙ free w state in
      let met : subcommand_or_other c None w k word (held rows p) ≡ (held rows p, value) = rw (dashes, is_long) plain in
      let fault : step_fault s k (held rows p) value ≡ [] = subst (λ (r : Held × _). step_fault s k r.0 r.1 ≡ []) met turn.step in
      place_step id false w k rows p word state fault
      (walked_is w k rows p word ∙ ap (λ (r : Held × _). after_step c word (walk_at rows p w k false) r.0 r.1) met)
      (λ ws. rw (dashes, is_long) refl) (λ ws follow. rw (dashes, is_long) follow)
    where
      free : (v : Waiting) → Waits c None v p → plain_word c v word (held rows p) ≡ (held rows p, value)
      free v (idles q ready) = refl
      free v (goes_on q ready) = refl

  -- a word where no option waits
  pub free_step : (id : Text) (w : Waiting) (k : ℕ) (rows : List Row) (p : Pending) (word : Text) → Waits c None w p
      → turn_fault s [] (walk_at rows p w k false) word ≡ []
      → OneStep id c rows p false None w k word
  free_step id w k rows p word state fault = go (is_dashes word) refl (long_of word) refl
    where
      turn : Turn w k rows p word
      turn = turn_is w k rows p word fault

      go : (b : Bool) → is_dashes word ≡ b → (o : Option (Text × Option Text)) → long_of word ≡ o → OneStep id c rows p false None w k word
      go true dashes o is = dashes_step id w k rows p word state dashes
      go false dashes None is = plain_step id w k rows p word state dashes is turn
      go false dashes (Some (name, v)) is =
          let sound : long_fault c false (arg_by_long c name) v (held rows p) ≡ [] = rw (dashes, is, once) at turn.other in
          option_step id w k rows p word name v state dashes is sound (walked_is w k rows p word ∙ rw (dashes, is) refl)

  -- ---- a word where an option waits

  pub given_step : (id : Text) (k : ℕ) (rows : List Row) (a : Rule) (word : Text) → IsOption c a → is_dashes word ≡ false
      → turn_fault s [] (walk_at rows (Some (a.id, [])) (option a.id) k false) word ≡ []
      → OneStep id c rows (Some (a.id, [])) false (Some a) (option a.id) k word
  given_step id k rows a word opt dashes fault = go (long_of word) refl
    where
      p : Pending
      p = Some (a.id, [])

      turn : Turn (option a.id) k rows p word
      turn = turn_is (option a.id) k rows p word fault

      no_option : (name : Text) (v : Option Text) → long_fault c false (arg_by_long c name) v (held rows p) ≡ [] → ⊥
      no_option name (Some v) e =
          let l = long_is name (Some v) rows p e in
          waits_ever rows a opt (or_else-nil (settle_fault c false (held rows p)) (use_fault false l.a (v ∷ []) (settled_rows c p rows)) l.sound).0
      no_option name None e = let l = long_is name None rows p e in waits_ever rows a opt l.sound

      go : (o : Option (Text × Option Text)) → long_of word ≡ o → OneStep id c rows p false (Some a) (option a.id) k word
      go (Some (name, v)) is = absurd (no_option name v (rw (dashes, is, once) at turn.other))
      go None is =
          let word_fault : flag_word_fault c false None word (held rows p) ≡ [] = rw (dashes, is, once) at turn.other in
          let met : subcommand_or_other c None (option a.id) k word (held rows p) ≡ plain_word c (option a.id) word (held rows p) =
          rw (dashes, is) (plain_is (option a.id) word rows p word_fault) in
          record {
            trailing = false;
            given = None;
            waits = idle;
            rows_now = rows;
            pending = Some (a.id, word ∷ []);
            place = k;
            is = walked_is (option a.id) k rows p word ∙ ap (λ (r : Held × _). after_step c word (walk_at rows p (option a.id) k false) r.0 r.1) met
                ∙ rw (opt.found, itself a.id, opt.most) refl;
            state = idles (Some (a.id, word ∷ [])) (a, opt.found, refl, opt.taken);
            adds = cond (bytes_eq a.id id) (word ∷ []) [];
            taken = ap (λ vs. vs ++ cond (bytes_eq a.id id) (word ∷ []) [])
                (sym (append-nil (values id rows)) ∙ ap (λ vs. values id rows ++ vs) (sym (nothing_yet (bytes_eq a.id id))));
            got_on = λ ws. refl;
            follows = λ ws follow. (dashes, is, follow);
          }

  -- ---- all words

  -- where the words end, what each added was taken, and each option had its value
  pub record Ends (id : Text) (rows : List Row) (p : Pending) (t : Bool) (g : Option Rule) (k : ℕ) (ws : List Text) (end : Held) : Type 0 where
    pub ready : IsPending c end.pending
    pub taken : taken id end ≡ all_taken id rows p ++ got id c t (maybe g) k ws
    pub follows : Follows t (is_some g) ws

  -- an option that waits behind a `--` is a fault
  never_ends : (rows : List Row) (a : Rule) (k : ℕ) (ws : List Text) → IsOption c a
      → walk_fault s [] (walk_at rows (Some (a.id, [])) (option a.id) k true) ws ≡ []
      → settle_fault c false (fold (walked c []) (walk_at rows (Some (a.id, [])) (option a.id) k true) ws).held ≡ [] → ⊥
  unfolding walk_fault
  never_ends rows a k [] opt fault settles = waits_ever rows a opt settles
  never_ends rows a k (w ∷ ws) opt fault settles =
      never_placed k rows a opt
      (or_else-nil (turn_fault s [] (walk_at rows (Some (a.id, [])) (option a.id) k true) w)
      (walk_fault s [] (walked c [] (walk_at rows (Some (a.id, [])) (option a.id) k true) w) ws) fault).0

  one_step : (id : Text) (t : Bool) (g : Option Rule) (w : Waiting) (k : ℕ) (rows : List Row) (p : Pending) (word : Text) (ws : List Text)
      → Waits c g w p
      → walk_fault s [] (walk_at rows p w k t) (word ∷ ws) ≡ []
      → settle_fault c false (fold (walked c []) (walk_at rows p w k t) (word ∷ ws)).held ≡ [] → OneStep id c rows p t g w k word
  unfolding walk_fault
  one_step id true g w k rows p word ws (idles q ready) fault settles =
      trailing_step id idle k rows q word (idles q ready)
      (or_else-nil (turn_fault s [] (walk_at rows q idle k true) word) (walk_fault s [] (walked c [] (walk_at rows q idle k true) word) ws)
      fault).0
  one_step id true g w k rows p word ws (goes_on q ready) fault settles =
      trailing_step id positional k rows q word (goes_on q ready)
      (or_else-nil (turn_fault s [] (walk_at rows q positional k true) word)
      (walk_fault s [] (walked c [] (walk_at rows q positional k true) word) ws) fault).0
  one_step id true g w k rows p word ws (awaits a opt) fault settles = absurd (never_ends rows a k (word ∷ ws) opt fault settles)
  one_step id false g w k rows p word ws (idles q ready) fault settles =
      free_step id idle k rows q word (idles q ready)
      (or_else-nil (turn_fault s [] (walk_at rows q idle k false) word) (walk_fault s [] (walked c [] (walk_at rows q idle k false) word) ws)
      fault).0
  one_step id false g w k rows p word ws (goes_on q ready) fault settles =
      free_step id positional k rows q word (goes_on q ready)
      (or_else-nil (turn_fault s [] (walk_at rows q positional k false) word)
      (walk_fault s [] (walked c [] (walk_at rows q positional k false) word) ws) fault).0
  one_step id false g w k rows p word ws (awaits a opt) fault settles = go (is_dashes word) refl
    where
      from : Walk
      from = walk_at rows (Some (a.id, [])) (option a.id) k false

      parts : (turn_fault s [] from word ≡ []) × (walk_fault s [] (walked c [] from word) ws ≡ [])
      parts = or_else-nil (turn_fault s [] from word) (walk_fault s [] (walked c [] from word) ws) fault

      go : (b : Bool) → is_dashes word ≡ b → OneStep id c rows (Some (a.id, [])) false (Some a) (option a.id) k word
      go false dashes = given_step id k rows a word opt dashes parts.0
      go true dashes =
          let past : walked c [] from word ≡ walk_at rows (Some (a.id, [])) (option a.id) k true =
          walked_is (option a.id) k rows (Some (a.id, [])) word ∙ rw dashes refl in
          absurd (never_ends rows a k ws opt (subst (λ (v : Walk). walk_fault s [] v ws ≡ []) past parts.1)
          (subst (λ (v : Walk). settle_fault c false (fold (walked c []) v ws).held ≡ []) past settles))

  abbrev EndsAt : Text → Bool → Option Rule → Waiting → ℕ → List Row → Pending → List Text → Type 0
  EndsAt id t g w k rows p ws =
      Waits c g w p → walk_fault s [] (walk_at rows p w k t) ws ≡ [] → settle_fault c false (fold (walked c []) (walk_at rows p w k t) ws).held ≡ []
      → Ends id rows p t g k ws (fold (walked c []) (walk_at rows p w k t) ws).held

  ends_now : (id : Text) (t : Bool) (g : Option Rule) (w : Waiting) (k : ℕ) (rows : List Row) (p : Pending) → EndsAt id t g w k rows p []
  ends_now id t g w k rows p (idles q ready) fault settles =
      record {
        ready = ready;
        taken = sym (append-nil (all_taken id rows q));
        follows = elim t as (λ b. Follows b false []) [ true ↦ tt | false ↦ tt ];
      }
  ends_now id t g w k rows p (goes_on q ready) fault settles =
      record {
        ready = ready;
        taken = sym (append-nil (all_taken id rows q));
        follows = elim t as (λ b. Follows b false []) [ true ↦ tt | false ↦ tt ];
      }
  ends_now id t g w k rows p (awaits a opt) fault settles = absurd (waits_ever rows a opt settles)

  ends_later : (id : Text) (t : Bool) (g : Option Rule) (w : Waiting) (k : ℕ) (rows : List Row) (p : Pending) (word : Text) (ws : List Text)
      → OneStep id c rows p t g w k word
      → ((u : Bool) (o : Option Rule) (v : Waiting) (j : ℕ) (later : List Row) (q : Pending) → EndsAt id u o v j later q ws)
      → EndsAt id t g w k rows p (word ∷ ws)
  unfolding walk_fault
  ends_later id t g w k rows p word ws step more state fault settles =
      let from = walk_at rows p w k t in
      let to = walk_at step.rows_now step.pending step.waits step.place step.trailing in
      let parts = or_else-nil (turn_fault s [] from word) (walk_fault s [] (walked c [] from word) ws) fault in
      let end = more step.trailing step.given step.waits step.place step.rows_now step.pending step.state
      (subst (λ (v : Walk). walk_fault s [] v ws ≡ []) step.is parts.1)
      (subst (λ (v : Walk). settle_fault c false (fold (walked c []) v ws).held ≡ []) step.is settles)
      in
      let rest = got id c step.trailing (maybe step.given) step.place ws in
      subst (λ (v : Walk). Ends id rows p t g k (word ∷ ws) (fold (walked c []) v ws).held) (sym step.is)
      (record {
        ready = end.ready;
        taken = end.taken ∙ ap (λ vs. vs ++ rest) step.taken ∙ append_assoc (all_taken id rows p) step.adds rest
            ∙ ap (λ vs. all_taken id rows p ++ vs) (sym (step.got_on ws));
        follows = step.follows ws end.follows;
      })

  pub ends : (id : Text) (ws : List Text) (t : Bool) (g : Option Rule) (w : Waiting) (k : ℕ) (rows : List Row) (p : Pending)
      → EndsAt id t g w k rows p ws
  ends id [] t g w k rows p state fault settles = ends_now id t g w k rows p state fault settles
  ends id (word ∷ ws) t g w k rows p state fault settles =
      ends_later id t g w k rows p word ws (one_step id t g w k rows p word ws state fault settles) (λ u o v j later q. ends id ws u o v j later q)
      state fault settles
