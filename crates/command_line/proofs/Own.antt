-- The words that are values of their own, and the first that an option gives, one word after another.
use Rattle.std.proofs.Common.{arith, ◌≡◌, ◌∙◌, ◌++◌, ◌||◌, ℕ, zero, suc, ◌+◌, ◌-◌, ◌≤◌, Bool, true, false, not, cond, List, [], ◌∷◌, length, map}
use Rattle.std.proofs.Common.{drop, get_or, Option, Some, None, refl, sym, ap, ap₂, subst, codes}
use Rattle.std.specs.Prelude.{find, is_some, nat_lt, option_and_then, slice_get}
use Rattle.std.specs.List.{filter, range_with_len}
use Rattle.std.specs.Option.{option_map_or}
use Rattle.std.specs.Str.{bytes_eq}
use Rattle.std.proofs.lemmas.Bool.Decides.{nat_tests}
use Rattle.clap.specs.Lexer.{long_of}
use Rattle.clap.specs.Walk.{Rule, Text, arg_by_index, arg_by_long}
use Rattle.command_line.proofs.PlaceLemmas.{trailing_more}
use Rattle.command_line.specs.Places.{is_dashes, is_given, is_positional, is_trailing, lacks_value, names_option, option_at, word_at}
use Rattle.command_line.specs.Taken.{value_at, value_behind}
use Rattle.command_line.proofs.Steps.{Follows, FollowsBy, after, got, placed, reads}
use Rattle.command_line.proofs.WordValues.{same_text}

-- ---- words by their places

drop_parts : (l : List Text) (p : ℕ) (w : Text) (ws : List Text) → drop p l ≡ w ∷ ws
    → (get_or l p [] ≡ w) × (drop (p + 1) l ≡ ws) × (slice_get l p ≡ Some w)
drop_parts [] zero w ws e = absurd (cc)
drop_parts [] (suc p) w ws e = absurd (cc)
drop_parts (x ∷ xs) zero w ws e =
    let first : x ≡ w = cc in
    let rest : xs ≡ ws = cc in
    (first, rest, ap (λ (t : Text). Some t) first)
drop_parts (x ∷ xs) (suc p) w ws e =
    let on : suc p + 1 ≡ suc (p + 1) = omega arith in
    let more = drop_parts xs p w ws e in
    (more.0, ap (λ n. drop n (x ∷ xs)) on ∙ more.1, more.2)

-- ---- the values of their own

-- by what the words behind it add, where this one is an option with no value, and where it is not
abbrev pub own_word : Bool → Option (Text × Option Text) → Bool → Text → List Text → List Text → List Text → List Text
own_word true o g w ws given free = ws
own_word false (Some (name, Some v)) g w ws given free = free
own_word false (Some (name, None)) g w ws given free = given
own_word false None true w ws given free = free
own_word false None false w ws given free = w ∷ free

abbrev pub own : Bool → Bool → List Text → List Text
own true g ws = ws
own false g [] = []
own false g (w ∷ ws) = own_word (is_dashes w) (long_of w) g w ws (own false true ws) (own false false ws)

own_none : (t g : Bool) → own t g [] ≡ []
own_none true g = refl
own_none false g = refl

module _ (words : List Text) where
  given_more : (p : ℕ) → 2 ≤ p → is_given words (p + 1) ≡ lacks_value (option_at words p)
  given_more p some =
      let same : p + 1 - 1 ≡ p = omega arith in
      let behind : nat_lt 2 (p + 1) ≡ true = grind (arith, nat_tests) in
      rw (behind, same) refl

  abbrev texts_from : ℕ → ℕ → List Text
  texts_from p n = map (word_at words) (filter (is_positional words) (range_with_len p n))

  own_step : (p : ℕ) (w : Text) (ws : List Text) → 2 ≤ p → word_at words p ≡ w
      → own (is_trailing words (p + 1)) (is_given words (p + 1)) ws ≡ texts_from (p + 1) (length ws)
      → own (is_trailing words p) (is_given words p) (w ∷ ws) ≡ texts_from p (suc (length ws))
  own_step p w ws some here more = by_trailing (is_trailing words p) refl
    where
      rest : List Text
      rest = texts_from (p + 1) (length ws)

      trailing_next : is_trailing words (p + 1) ≡ (is_trailing words p || is_dashes w)
      trailing_next = trailing_more words p some ∙ ap (λ x. is_trailing words p || is_dashes x) here

      from : (t g : Bool) → is_trailing words (p + 1) ≡ t → is_given words (p + 1) ≡ g → own t g ws ≡ rest
      from t g a b = ap₂ (λ x y. own x y ws) (sym a) (sym b) ∙ more

      -- the place itself, where it is one or not
      here_or : (b : Bool) → is_positional words p ≡ b → texts_from p (suc (length ws)) ≡ cond b (w ∷ rest) rest
      here_or true is = ap (λ b. map (word_at words)
          (cond b (p ∷ filter (is_positional words) (range_with_len (p + 1) (length ws)))
          (filter (is_positional words) (range_with_len (p + 1) (length ws))))) is ∙ ap (λ x. x ∷ rest) here
      here_or false is = ap (λ b. map (word_at words)
          (cond b (p ∷ filter (is_positional words) (range_with_len (p + 1) (length ws)))
          (filter (is_positional words) (range_with_len (p + 1) (length ws))))) is

      is_one : (t d o g : Bool) → is_trailing words p ≡ t → is_dashes (word_at words p) ≡ d → is_some (option_at words p) ≡ o → is_given words p ≡ g
          → is_positional words p ≡ (t || not (d || (o || g)))
      is_one t d o g a b c e = λ i. a i || not (b i || (c i || e i))

      dashes_here : (b : Bool) → is_dashes w ≡ b → is_dashes (word_at words p) ≡ b
      dashes_here b f = ap is_dashes here ∙ f

      option_here : is_trailing words p ≡ false → (o : Option (Text × Option Text)) → long_of w ≡ o → option_at words p ≡ o
      option_here e o h = ap (λ t. cond t None (long_of (word_at words p))) e ∙ ap long_of here ∙ h

      given_next : is_trailing words p ≡ false → (o : Option (Text × Option Text)) → long_of w ≡ o → is_given words (p + 1) ≡ lacks_value o
      given_next e o h = given_more p some ∙ ap lacks_value (option_here e o h)

      next_is : (t d : Bool) → is_trailing words p ≡ t → is_dashes w ≡ d → is_trailing words (p + 1) ≡ (t || d)
      next_is t d e f = trailing_next ∙ ap₂ ◌||◌ e f

      now : (d : Bool) (o : Option (Text × Option Text)) (g : Bool) → is_trailing words p ≡ false → is_dashes w ≡ d → long_of w ≡ o
          → is_given words p ≡ g
          → own (is_trailing words p) (is_given words p) (w ∷ ws) ≡ own_word d o g w ws (own false true ws) (own false false ws)
      now d o g e f h k = ap₂ (λ t x. own t x (w ∷ ws)) e k ∙ ap₂ (λ x y. own_word x y g w ws (own false true ws) (own false false ws)) f h

      by_option : is_trailing words p ≡ false → is_dashes w ≡ false → (o : Option (Text × Option Text)) → long_of w ≡ o → (g : Bool)
          → is_given words p ≡ g
          → own (is_trailing words p) (is_given words p) (w ∷ ws) ≡ texts_from p (suc (length ws))
      by_option e f (Some (name, Some v)) h g k =
          let positional = is_one false false true g e (dashes_here false f) (ap is_some (option_here e (Some (name, Some v)) h)) k in
          now false (Some (name, Some v)) g e f h k ∙ from false false (next_is false false e f) (given_next e (Some (name, Some v)) h)
          ∙ sym (here_or false positional)
      by_option e f (Some (name, None)) h g k =
          let positional = is_one false false true g e (dashes_here false f) (ap is_some (option_here e (Some (name, None)) h)) k in
          now false (Some (name, None)) g e f h k ∙ from false true (next_is false false e f) (given_next e (Some (name, None)) h)
          ∙ sym (here_or false positional)
      by_option e f None h true k =
          let positional = is_one false false false true e (dashes_here false f) (ap is_some (option_here e None h)) k in
          now false None true e f h k ∙ from false false (next_is false false e f) (given_next e None h) ∙ sym (here_or false positional)
      by_option e f None h false k =
          let positional = is_one false false false false e (dashes_here false f) (ap is_some (option_here e None h)) k in
          now false None false e f h k ∙ ap (λ l. w ∷ l) (from false false (next_is false false e f) (given_next e None h))
          ∙ sym (here_or true positional)

      by_dashes : is_trailing words p ≡ false → (d : Bool) → is_dashes w ≡ d
          → own (is_trailing words p) (is_given words p) (w ∷ ws) ≡ texts_from p (suc (length ws))
      by_dashes e true f =
          let positional = is_one false true (is_some (option_at words p)) (is_given words p) e (dashes_here true f) refl refl in
          now true (long_of w) (is_given words p) e f refl refl ∙ from true (is_given words (p + 1)) (next_is false true e f) refl
          ∙ sym (here_or false positional)
      by_dashes e false f = by_option e f (long_of w) refl (is_given words p) refl

      by_trailing : (t : Bool) → is_trailing words p ≡ t → own (is_trailing words p) (is_given words p) (w ∷ ws) ≡ texts_from p (suc (length ws))
      by_trailing true e =
          let positional = is_one true (is_dashes (word_at words p)) (is_some (option_at words p)) (is_given words p) e refl refl refl in
          ap (λ t. own t (is_given words p) (w ∷ ws)) e
          ∙ ap (λ l. w ∷ l) (from true (is_given words (p + 1)) (next_is true (is_dashes w) e refl) refl) ∙ sym (here_or true positional)
      by_trailing false e = by_dashes e (is_dashes w) refl

  pub own_places : (ws : List Text) (p : ℕ) → 2 ≤ p → drop p words ≡ ws → own (is_trailing words p) (is_given words p) ws ≡ texts_from p (length ws)
  own_places [] p some is = own_none (is_trailing words p) (is_given words p)
  own_places (w ∷ ws) p some is =
      let parts = drop_parts words p w ws is in
      own_step p w ws some parts.0 (own_places ws (p + 1) (omega arith) parts.1)

-- ---- which of them an id has

abbrev pub IsQuiet : Text → Option (Option Rule) → Type 0
IsQuiet id None = Unit {0}
IsQuiet id (Some m) = (v : Text) → placed id m v ≡ []

-- an id of a place has of these words what `pick` takes, by the place that is next
pub record Picks (id : Text) (c : List Rule) (At : ℕ → Type 0) (pick : ℕ → List Text → List Text) : Type 0 where
  pub no_option : (name v : Text) → placed id (arg_by_long c name) v ≡ []
  pub none : (k : ℕ) → At k → pick k [] ≡ []
  pub on : (k : ℕ) → At k → At (after (arg_by_index c k) k)
  pub adds : (k : ℕ) → At k → (w : Text) (ws : List Text) → placed id (arg_by_index c k) w ++ pick (after (arg_by_index c k) k) ws ≡ pick k (w ∷ ws)

module _ (id : Text) (c : List Rule) (At : ℕ → Type 0) (pick : ℕ → List Text → List Text) (picks : Picks id c At pick) where
  abbrev Picked : List Text → Type 0
  Picked ws = (t : Bool) (g : Option (Option Rule)) (k : ℕ) → At k → IsQuiet id g → Follows t (is_some g) ws
      → got id c t g k ws ≡ pick k (own t (is_some g) ws)

  picked_step : (w : Text) (ws : List Text) → Picked ws → Picked (w ∷ ws)
  picked_step w ws more true g k at quiet follow =
      ap (λ l. placed id (arg_by_index c k) w ++ l) (more true None (after (arg_by_index c k) k) (picks.on k at) tt tt) ∙ picks.adds k at w ws
  picked_step w ws more false (Some m) k at quiet follow =
      ap (λ l. l ++ got id c false None k ws) (quiet w) ∙ more false None k at tt follow.2
      ∙ sym (ap₂ (λ d o. pick k (own_word d o true w ws (own false true ws) (own false false ws))) follow.0 follow.1)
  picked_step w ws more false None k at quiet follow = go (is_dashes w) refl (long_of w) refl
    where
      rest : Bool → Option (Option Rule) → ℕ → List Text
      rest t g j = got id c t g j ws

      now : (d : Bool) (o : Option (Text × Option Text)) → is_dashes w ≡ d → long_of w ≡ o → got id c false None k (w ∷ ws) ≡ reads id c k w d o rest
      now d o f h = ap₂ (λ x y. reads id c k w x y rest) f h

      own_now : (d : Bool) (o : Option (Text × Option Text)) → is_dashes w ≡ d → long_of w ≡ o
          → own_word d o false w ws (own false true ws) (own false false ws) ≡ own false false (w ∷ ws)
      own_now d o f h = ap₂ (λ x y. own_word x y false w ws (own false true ws) (own false false ws)) (sym f) (sym h)

      follow_by : (d : Bool) (o : Option (Text × Option Text)) → is_dashes w ≡ d → long_of w ≡ o
          → FollowsBy d o (Follows false true ws) (Follows false false ws)
      follow_by d o f h = subst (λ x. FollowsBy x o (Follows false true ws) (Follows false false ws)) f
          (subst (λ y. FollowsBy (is_dashes w) y (Follows false true ws) (Follows false false ws)) h follow)

      go : (d : Bool) → is_dashes w ≡ d → (o : Option (Text × Option Text)) → long_of w ≡ o
          → got id c false None k (w ∷ ws) ≡ pick k (own false false (w ∷ ws))
      go true f o h = now true o f h ∙ more true None k at tt tt ∙ ap (pick k) (own_now true o f h)
      go false f (Some (name, Some v)) h =
          now false (Some (name, Some v)) f h ∙ ap (λ l. l ++ rest false None k) (picks.no_option name v)
          ∙ more false None k at tt (follow_by false (Some (name, Some v)) f h) ∙ ap (pick k) (own_now false (Some (name, Some v)) f h)
      go false f (Some (name, None)) h =
          now false (Some (name, None)) f h ∙ more false (Some (arg_by_long c name)) k at (picks.no_option name)
          (follow_by false (Some (name, None)) f h)
          ∙ ap (pick k) (own_now false (Some (name, None)) f h)
      go false f None h =
          now false None f h ∙ ap (λ l. placed id (arg_by_index c k) w ++ l)
          (more false None (after (arg_by_index c k) k) (picks.on k at) tt (follow_by false None f h))
          ∙ picks.adds k at w (own false false ws) ∙ ap (pick k) (own_now false None f h)

  pub picked : (ws : List Text) → Picked ws
  picked [] t g k at quiet follow = sym (picks.none k at) ∙ ap (pick k) (sym (own_none t (is_some g)))
  picked (w ∷ ws) t g k at quiet follow = picked_step w ws (picked ws) t g k at quiet follow

-- ---- the first value of an option

-- an id of an option has the values that its name is given
pub record IsNamed (id : Text) (c : List Rule) : Type 0 where
  pub named : (name v : Text) → placed id (arg_by_long c name) v ≡ cond (bytes_eq name id) (v ∷ []) []
  pub no_place : (k : ℕ) (w : Text) → placed id (arg_by_index c k) w ≡ []

module _ (words : List Text) (id : Text) (c : List Rule) (is : IsNamed id c) where
  abbrev first_from : ℕ → ℕ → Option Text
  first_from p n = option_and_then (value_at words) (find (names_option id words) (range_with_len p n))

  -- behind a `--` there is none
  none_trailing : (ws : List Text) (g : Option (Option Rule)) (k : ℕ) → got id c true g k ws ≡ []
  none_trailing [] g k = refl
  none_trailing (w ∷ ws) g k = ap₂ ◌++◌ (is.no_place k w) (none_trailing ws None (after (arg_by_index c k) k))

  no_more : (n p : ℕ) → 2 ≤ p → is_trailing words p ≡ true → find (names_option id words) (range_with_len p n) ≡ None
  no_more zero p some e = refl
  no_more (suc n) p some e =
      let none : names_option id words p ≡ false = rw e refl in
      let next : is_trailing words (p + 1) ≡ true = trailing_more words p some ∙ ap (λ t. t || is_dashes (word_at words p)) e in
      ap (λ b. cond b (Some p) (find (names_option id words) (range_with_len (p + 1) n))) none ∙ no_more n (p + 1) (omega arith) next

  dashes_no_option : (w : Text) → is_dashes w ≡ true → long_of w ≡ None
  dashes_no_option w e = ap long_of (same_text w (codes "--") e)

  abbrev First : List Text → Type 0
  First ws =
      (p : ℕ) (g : Option (Option Rule)) (k : ℕ) → 2 ≤ p → drop p words ≡ ws → is_trailing words p ≡ false → IsQuiet id g
      → Follows false (is_some g) ws
      → slice_get (got id c false g k ws) 0 ≡ first_from p (length ws)

  first_step : (w : Text) (ws : List Text) → First ws → First (w ∷ ws)
  first_step w ws more p g k some there free quiet follow = go g quiet follow
    where
      parts : (word_at words p ≡ w) × (drop (p + 1) words ≡ ws) × (slice_get words p ≡ Some w)
      parts = drop_parts words p w ws there

      rest : Bool → Option (Option Rule) → ℕ → List Text
      rest t o j = got id c t o j ws

      option_here : (o : Option (Text × Option Text)) → long_of w ≡ o → option_at words p ≡ o
      option_here o h = ap (λ t. cond t None (long_of (word_at words p))) free ∙ ap long_of parts.0 ∙ h

      named_here : (o : Option (Text × Option Text)) → long_of w ≡ o → names_option id words p ≡ option_map_or (λ q. bytes_eq q.0 id) o false
      named_here o h = ap (λ x. option_map_or (λ (q : Text × Option Text). bytes_eq q.0 id) x false) (option_here o h)

      next_is : (d : Bool) → is_dashes w ≡ d → is_trailing words (p + 1) ≡ d
      next_is d f = trailing_more words p some ∙ ap₂ ◌||◌ free (ap is_dashes parts.0 ∙ f)

      either : Bool → Option Text
      either b = option_and_then (value_at words) (cond b (Some p) (find (names_option id words) (range_with_len (p + 1) (length ws))))

      passed : names_option id words p ≡ false → first_from (p + 1) (length ws) ≡ first_from p (suc (length ws))
      passed none = ap either (sym none)

      found : names_option id words p ≡ true → value_at words p ≡ first_from p (suc (length ws))
      found hit = ap either (sym hit)

      -- the word behind an option with no value of its own
      next_word : (name : Text) (l : List Text) → bytes_eq name id ≡ true → drop (p + 1) words ≡ l → Follows false true l
          → slice_get (got id c false (Some (arg_by_long c name)) k l) 0 ≡ slice_get words (p + 1)
      next_word name [] e at follows = absurd follows
      next_word name (x ∷ xs) e at follows =
          ap (λ l. slice_get (l ++ got id c false None k xs) 0) (is.named name x ∙ ap (λ b. cond b (x ∷ []) []) e)
          ∙ sym (drop_parts words (p + 1) x xs at).2

      go : (o : Option (Option Rule)) → IsQuiet id o → Follows false (is_some o) (w ∷ ws)
          → slice_get (got id c false o k (w ∷ ws)) 0 ≡ first_from p (suc (length ws))
      go (Some m) calm follows =
          ap (λ l. slice_get (l ++ rest false None k) 0) (calm w) ∙ more (p + 1) None k (omega arith) parts.1 (next_is false follows.0) tt follows.2
          ∙ passed (named_here None follows.1)
      go None calm follows = by (is_dashes w) refl (long_of w) refl
        where
          now : (d : Bool) (o : Option (Text × Option Text)) → is_dashes w ≡ d → long_of w ≡ o
              → slice_get (got id c false None k (w ∷ ws)) 0 ≡ slice_get (reads id c k w d o rest) 0
          now d o f h = ap₂ (λ x y. slice_get (reads id c k w x y rest) 0) f h

          follow_by : (d : Bool) (o : Option (Text × Option Text)) → is_dashes w ≡ d → long_of w ≡ o
              → FollowsBy d o (Follows false true ws) (Follows false false ws)
          follow_by d o f h = subst (λ x. FollowsBy x o (Follows false true ws) (Follows false false ws)) f
              (subst (λ y. FollowsBy (is_dashes w) y (Follows false true ws) (Follows false false ws)) h follows)

          joined : (name v : Text) → is_dashes w ≡ false → long_of w ≡ Some (name, Some v) → (b : Bool) → bytes_eq name id ≡ b
              → slice_get (got id c false None k (w ∷ ws)) 0 ≡ first_from p (suc (length ws))
          joined name v f h b e =
              now false (Some (name, Some v)) f h ∙ ap (λ l. slice_get (l ++ rest false None k) 0) (is.named name v ∙ ap (λ x. cond x (v ∷ []) []) e)
              ∙ last b e
            where
              last : (x : Bool) → bytes_eq name id ≡ x → slice_get (cond x (v ∷ []) [] ++ rest false None k) 0 ≡ first_from p (suc (length ws))
              last true e = sym (ap (option_and_then (value_behind words p)) (option_here (Some (name, Some v)) h))
                  ∙ found (named_here (Some (name, Some v)) h ∙ e)
              last false e = more (p + 1) None k (omega arith) parts.1 (next_is false f) tt (follow_by false (Some (name, Some v)) f h)
                  ∙ passed (named_here (Some (name, Some v)) h ∙ e)

          alone : (name : Text) → is_dashes w ≡ false → long_of w ≡ Some (name, None) → (b : Bool) → bytes_eq name id ≡ b
              → slice_get (got id c false None k (w ∷ ws)) 0 ≡ first_from p (suc (length ws))
          alone name f h true e =
              now false (Some (name, None)) f h ∙ next_word name ws e parts.1 (follow_by false (Some (name, None)) f h)
              ∙ sym (ap (option_and_then (value_behind words p)) (option_here (Some (name, None)) h)) ∙ found (named_here (Some (name, None)) h ∙ e)
          alone name f h false e =
              now false (Some (name, None)) f h
              ∙ more (p + 1) (Some (arg_by_long c name)) k (omega arith) parts.1 (next_is false f)
              (λ v. is.named name v ∙ ap (λ x. cond x (v ∷ []) []) e) (follow_by false (Some (name, None)) f h)
              ∙ passed (named_here (Some (name, None)) h ∙ e)

          by : (d : Bool) → is_dashes w ≡ d → (o : Option (Text × Option Text)) → long_of w ≡ o
              → slice_get (got id c false None k (w ∷ ws)) 0 ≡ first_from p (suc (length ws))
          by true f o h =
              now true o f h ∙ ap (λ l. slice_get l 0) (none_trailing ws None k)
              ∙ sym (ap (option_and_then (value_at words)) (no_more (length ws) (p + 1) (omega arith) (next_is true f)))
              ∙ passed (named_here None (dashes_no_option w f))
          by false f (Some (name, Some v)) h = joined name v f h (bytes_eq name id) refl
          by false f (Some (name, None)) h = alone name f h (bytes_eq name id) refl
          by false f None h =
              now false None f h ∙ ap (λ l. slice_get (l ++ rest false None (after (arg_by_index c k) k)) 0) (is.no_place k w)
              ∙ more (p + 1) None (after (arg_by_index c k) k) (omega arith) parts.1 (next_is false f) tt (follow_by false None f h)
              ∙ passed (named_here None h)

  pub first : (ws : List Text) → First ws
  first [] p g k some there free quiet follow = refl
  first (w ∷ ws) p g k some there free quiet follow = first_step w ws (first ws) p g k some there free quiet follow
