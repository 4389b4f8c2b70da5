-- What the records still to come at a node weigh, on a scale.
use Rattle.std.proofs.Common.{◌≡◌, ℕ, ◌+◌, ◌<◌, ◌≤◌, Bool, true, false, cond, ◌==◌, List, [], ◌∷◌, ◌++◌, length, refl, sym, ap, ◌∙◌, subst, arith}
use Rattle.std.specs.List.{filter, flat_map, range_with_len}
use Rattle.std.proofs.lemmas.List.Elements.{filter-append}
use Rattle.cbdc_model.specs.Records.{Shape, Compact, Entry}
use Rattle.cbdc_model.specs.Ranges.{home_of, shard_node, part, is_no_part}
use Rattle.run_laws.specs.Ample.{Coming, at_coordinator, coming_at_shard, records_of}
use Rattle.run_laws.proofs.Sums.{total, total-append, total_flat, total_range, filter_flat, sum_below, sum_one}
use Rattle.run_laws.proofs.Scales.{Scale, prepare_at, commit_at, discard_at, done_at, lock_at, finish_at, forget_at}
use Rattle.run_laws.proofs.Numbers.{same_number}

module _ (s : Scale) (n : ℕ) where
  -- those of a list that come at this node
  abbrev pub weight : List Coming → ℕ
  weight cs = total s.coming (filter (λ (c : Coming). c.node == n) cs)

  pub weight-append : (us vs : List Coming) → weight (us ++ vs) ≡ weight us + weight vs
  weight-append us vs = ap (total s.coming) (filter-append (λ (c : Coming). c.node == n) us vs)
      ∙ total-append s.coming (filter (λ (c : Coming). c.node == n) us) (filter (λ (c : Coming). c.node == n) vs)

  pub weight_here : (c : Coming) (cs : List Coming) → (c.node == n) ≡ true → weight (c ∷ cs) ≡ s.coming c + weight cs
  weight_here c cs e = ap (λ t. total s.coming (cond t (c ∷ filter (λ (c : Coming). c.node == n) cs) (filter (λ (c : Coming). c.node == n) cs))) e

  pub weight_on : (c : Coming) (cs : List Coming) → weight cs ≤ weight (c ∷ cs)
  weight_on c cs = elim (c.node == n) as (λ t. weight cs
      ≤ total s.coming (cond t (c ∷ filter (λ (c : Coming). c.node == n) cs) (filter (λ (c : Coming). c.node == n) cs))) [
        | true ↦ omega arith
        | false ↦ omega arith
      ]

  pub weight_flat : {X : Type 0} (f : X → List Coming) (xs : List X) → weight (flat_map f xs) ≡ total (λ x. weight (f x)) xs
  weight_flat f xs = ap (total s.coming) (filter_flat (λ (c : Coming). c.node == n) f xs)
      ∙ total_flat s.coming (λ x. filter (λ (c : Coming). c.node == n) (f x)) xs

  pub weight_range : (f : ℕ → List Coming) (m : ℕ) → weight (flat_map f (range_with_len 0 m)) ≡ sum_below (λ k. weight (f k)) m
  weight_range f m = weight_flat f (range_with_len 0 m) ∙ total_range (λ k. weight (f k)) m

  -- those that pass a test
  pub kept_here : (p : Coming → Bool) (c : Coming) (cs : List Coming) → p c ≡ true → (c.node == n) ≡ true
      → weight (filter p (c ∷ cs)) ≡ s.coming c + weight (filter p cs)
  kept_here p c cs keep e = ap (λ t. weight (cond t (c ∷ filter p cs) (filter p cs))) keep ∙ weight_here c (filter p cs) e

  pub kept_on : (p : Coming → Bool) (c : Coming) (cs : List Coming) → weight (filter p cs) ≤ weight (filter p (c ∷ cs))
  kept_on p c cs = elim (p c) as (λ t. weight (filter p cs) ≤ weight (cond t (c ∷ filter p cs) (filter p cs))) [
    | true ↦ weight_on c (filter p cs)
    | false ↦ omega arith
  ]

  pub kept_range : (p : Coming → Bool) (f : ℕ → List Coming) (k m : ℕ) → k < m
      → weight (filter p (f k)) ≤ weight (filter p (flat_map f (range_with_len 0 m)))
  kept_range p f k m lt =
      let all : weight (filter p (flat_map f (range_with_len 0 m))) ≡ sum_below (λ j. weight (filter p (f j))) m =
      ap weight (filter_flat p f (range_with_len 0 m)) ∙ weight_range (λ j. filter p (f j)) m in
      let one : weight (filter p (f k)) ≤ sum_below (λ j. weight (filter p (f j))) m = sum_one (λ j. weight (filter p (f j))) k m lt in
      omega (arith, all, one)

  -- a batch's records
  module _ (K : Shape) (lane : ℕ) (txs : List Compact) where
    at_home : (n ≡ home_of K lane) → (home_of K lane == n) ≡ true
    at_home e = subst (λ k. (k == n) ≡ true) e (same_number n)

    pub all_at_home : n ≡ home_of K lane → weight (at_coordinator K lane txs)
        ≡ s.coming (prepare_at (home_of K lane) txs)
        + (s.coming (commit_at (home_of K lane) (length txs))
        + (s.coming (discard_at (home_of K lane)) + (s.coming (done_at (home_of K lane)) + 0)))
    all_at_home e =
        weight_here (prepare_at (home_of K lane) txs)
        (commit_at (home_of K lane) (length txs) ∷ (discard_at (home_of K lane) ∷ (done_at (home_of K lane) ∷ []))) (at_home e)
        ∙ ap (λ w. s.coming (prepare_at (home_of K lane) txs) + w)
        (weight_here (commit_at (home_of K lane) (length txs)) (discard_at (home_of K lane) ∷ (done_at (home_of K lane) ∷ [])) (at_home e)
        ∙ ap (λ w. s.coming (commit_at (home_of K lane) (length txs)) + w)
        (weight_here (discard_at (home_of K lane)) (done_at (home_of K lane) ∷ []) (at_home e)
        ∙ ap (λ w. s.coming (discard_at (home_of K lane)) + w) (weight_here (done_at (home_of K lane)) [] (at_home e))))

    pub home_in_records : weight (at_coordinator K lane txs) ≤ weight (records_of K lane txs)
    home_in_records =
        let both : weight (records_of K lane txs)
        ≡ weight (at_coordinator K lane txs) + weight
        (flat_map (λ j. coming_at_shard (shard_node K j) (part K j 0 txs)) (range_with_len 0 K.shards))
        = weight-append (at_coordinator K lane txs) (flat_map (λ j. coming_at_shard (shard_node K j) (part K j 0 txs)) (range_with_len 0 K.shards)) in
        omega (arith, both)

    pub kept_home : (p : Coming → Bool) → weight (filter p (at_coordinator K lane txs)) ≤ weight (filter p (records_of K lane txs))
    kept_home p =
        let parts : filter p (records_of K lane txs)
        ≡ filter p (at_coordinator K lane txs) ++ filter p
        (flat_map (λ j. coming_at_shard (shard_node K j) (part K j 0 txs)) (range_with_len 0 K.shards))
        = filter-append p (at_coordinator K lane txs) (flat_map (λ j. coming_at_shard (shard_node K j) (part K j 0 txs)) (range_with_len 0 K.shards))
        in
        let both : weight (filter p (records_of K lane txs))
        ≡ weight (filter p (at_coordinator K lane txs))
        + weight (filter p (flat_map (λ j. coming_at_shard (shard_node K j) (part K j 0 txs)) (range_with_len 0 K.shards)))
        = ap weight parts ∙ weight-append (filter p (at_coordinator K lane txs))
        (filter p (flat_map (λ j. coming_at_shard (shard_node K j) (part K j 0 txs)) (range_with_len 0 K.shards))) in
        omega (arith, both)

    pub kept_shard : (p : Coming → Bool) (j : ℕ) → j < K.shards
        → weight (filter p (coming_at_shard (shard_node K j) (part K j 0 txs))) ≤ weight (filter p (records_of K lane txs))
    kept_shard p j lt =
        let parts : filter p (records_of K lane txs)
        ≡ filter p (at_coordinator K lane txs) ++ filter p
        (flat_map (λ j. coming_at_shard (shard_node K j) (part K j 0 txs)) (range_with_len 0 K.shards))
        = filter-append p (at_coordinator K lane txs) (flat_map (λ j. coming_at_shard (shard_node K j) (part K j 0 txs)) (range_with_len 0 K.shards))
        in
        let both : weight (filter p (records_of K lane txs))
        ≡ weight (filter p (at_coordinator K lane txs))
        + weight (filter p (flat_map (λ j. coming_at_shard (shard_node K j) (part K j 0 txs)) (range_with_len 0 K.shards)))
        = ap weight parts ∙ weight-append (filter p (at_coordinator K lane txs))
        (filter p (flat_map (λ j. coming_at_shard (shard_node K j) (part K j 0 txs)) (range_with_len 0 K.shards))) in
        omega (arith, both, kept_range p (λ j. coming_at_shard (shard_node K j) (part K j 0 txs)) j K.shards lt)

  -- what passes at a shard with a part, and at a coordinator, behind those that have come
  module _ (p : Coming → Bool) where
    shard_from : (es : List Entry) → is_no_part es ≡ false → (p (lock_at n es) ≡ true) → (p (finish_at n (length es)) ≡ true) → p (forget_at n) ≡ true
        → s.coming (lock_at n es) + (s.coming (finish_at n (length es)) + s.coming (forget_at n)) ≤ weight (filter p (coming_at_shard n es))
    shard_from [] some l f g = absurd (let z : true ≡ false = some in cc)
    shard_from (e ∷ es) some l f g =
        let here : (n == n) ≡ true = same_number n in
        let third : weight (filter p (forget_at n ∷ [])) ≡ s.coming (forget_at n) + weight (filter p []) = kept_here p (forget_at n) [] g here in
        let second : weight (filter p (finish_at n (length (e ∷ es)) ∷ (forget_at n ∷ [])))
        ≡ s.coming (finish_at n (length (e ∷ es))) + weight (filter p (forget_at n ∷ []))
        = kept_here p (finish_at n (length (e ∷ es))) (forget_at n ∷ []) f here in
        let first : weight (filter p (coming_at_shard n (e ∷ es)))
        ≡ s.coming (lock_at n (e ∷ es)) + weight (filter p (finish_at n (length (e ∷ es)) ∷ (forget_at n ∷ [])))
        = kept_here p (lock_at n (e ∷ es)) (finish_at n (length (e ∷ es)) ∷ (forget_at n ∷ [])) l here in
        omega (arith, first, second, third)

    pub from_lock : (es : List Entry) → is_no_part es ≡ false → (p (lock_at n es) ≡ true) → (p (finish_at n (length es)) ≡ true)
        → p (forget_at n) ≡ true
        → s.coming (lock_at n es) + (s.coming (finish_at n (length es)) + s.coming (forget_at n)) ≤ weight (filter p (coming_at_shard n es))
    from_lock es some l f g = shard_from es some l f g

    pub from_finish : (es : List Entry) → is_no_part es ≡ false → p (finish_at n (length es)) ≡ true → p (forget_at n) ≡ true
        → s.coming (finish_at n (length es)) + s.coming (forget_at n) ≤ weight (filter p (coming_at_shard n es))
    from_finish [] some f g = absurd (let z : true ≡ false = some in cc)
    from_finish (e ∷ es) some f g =
        let here : (n == n) ≡ true = same_number n in
        let third : weight (filter p (forget_at n ∷ [])) ≡ s.coming (forget_at n) + weight (filter p []) = kept_here p (forget_at n) [] g here in
        let second : weight (filter p (finish_at n (length (e ∷ es)) ∷ (forget_at n ∷ [])))
        ≡ s.coming (finish_at n (length (e ∷ es))) + weight (filter p (forget_at n ∷ []))
        = kept_here p (finish_at n (length (e ∷ es))) (forget_at n ∷ []) f here in
        let first : weight (filter p (finish_at n (length (e ∷ es)) ∷ (forget_at n ∷ []))) ≤ weight (filter p (coming_at_shard n (e ∷ es)))
        = kept_on p (lock_at n (e ∷ es)) (finish_at n (length (e ∷ es)) ∷ (forget_at n ∷ [])) in
        omega (arith, first, second, third)

    pub from_forget : (es : List Entry) → is_no_part es ≡ false → p (forget_at n) ≡ true
        → s.coming (forget_at n) ≤ weight (filter p (coming_at_shard n es))
    from_forget [] some g = absurd (let z : true ≡ false = some in cc)
    from_forget (e ∷ es) some g =
        let here : (n == n) ≡ true = same_number n in
        let third : weight (filter p (forget_at n ∷ [])) ≡ s.coming (forget_at n) + weight (filter p []) = kept_here p (forget_at n) [] g here in
        let second : weight (filter p (forget_at n ∷ [])) ≤ weight (filter p (finish_at n (length (e ∷ es)) ∷ (forget_at n ∷ []))) =
        kept_on p (finish_at n (length (e ∷ es))) (forget_at n ∷ []) in
        let first : weight (filter p (finish_at n (length (e ∷ es)) ∷ (forget_at n ∷ []))) ≤ weight (filter p (coming_at_shard n (e ∷ es)))
        = kept_on p (lock_at n (e ∷ es)) (finish_at n (length (e ∷ es)) ∷ (forget_at n ∷ [])) in
        omega (arith, first, second, third)

    module _ (K : Shape) (lane : ℕ) (txs : List Compact) (home : n ≡ home_of K lane) where
      h : ℕ
      h = home_of K lane

      there : (home_of K lane == n) ≡ true
      there = subst (λ k. (k == n) ≡ true) home (same_number n)

      pub from_done : p (done_at (home_of K lane)) ≡ true → s.coming (done_at (home_of K lane)) ≤ weight (filter p (at_coordinator K lane txs))
      from_done d =
          let fourth : weight (filter p (done_at (home_of K lane) ∷ [])) ≡ s.coming (done_at (home_of K lane)) + weight (filter p []) =
          kept_here p (done_at (home_of K lane)) [] d there in
          omega (
            arith,
            fourth,
            kept_on p (discard_at (home_of K lane)) (done_at (home_of K lane) ∷ []),
            kept_on p (commit_at (home_of K lane) (length txs)) (discard_at (home_of K lane) ∷ (done_at (home_of K lane) ∷ [])),
            kept_on p (prepare_at (home_of K lane) txs)
                (commit_at (home_of K lane) (length txs) ∷ (discard_at (home_of K lane) ∷ (done_at (home_of K lane) ∷ []))),
          )

      pub from_discard : p (discard_at (home_of K lane)) ≡ true → p (done_at (home_of K lane)) ≡ true
          → s.coming (discard_at (home_of K lane)) + s.coming (done_at (home_of K lane)) ≤ weight (filter p (at_coordinator K lane txs))
      from_discard c d =
          let fourth : weight (filter p (done_at (home_of K lane) ∷ [])) ≡ s.coming (done_at (home_of K lane)) + weight (filter p []) =
          kept_here p (done_at (home_of K lane)) [] d there in
          let third : weight (filter p (discard_at (home_of K lane) ∷ (done_at (home_of K lane) ∷ [])))
          ≡ s.coming (discard_at (home_of K lane)) + weight (filter p (done_at (home_of K lane) ∷ []))
          = kept_here p (discard_at (home_of K lane)) (done_at (home_of K lane) ∷ []) c there in
          omega (
            arith,
            third,
            fourth,
            kept_on p (commit_at (home_of K lane) (length txs)) (discard_at (home_of K lane) ∷ (done_at (home_of K lane) ∷ [])),
            kept_on p (prepare_at (home_of K lane) txs)
                (commit_at (home_of K lane) (length txs) ∷ (discard_at (home_of K lane) ∷ (done_at (home_of K lane) ∷ []))),
          )

      pub from_commit : p (commit_at (home_of K lane) (length txs)) ≡ true → p (discard_at (home_of K lane)) ≡ true
          → p (done_at (home_of K lane)) ≡ true
          → s.coming (commit_at (home_of K lane) (length txs)) + (s.coming (discard_at (home_of K lane)) + s.coming (done_at (home_of K lane)))
          ≤ weight (filter p (at_coordinator K lane txs))
      from_commit b c d =
          let fourth : weight (filter p (done_at (home_of K lane) ∷ [])) ≡ s.coming (done_at (home_of K lane)) + weight (filter p []) =
          kept_here p (done_at (home_of K lane)) [] d there in
          let third : weight (filter p (discard_at (home_of K lane) ∷ (done_at (home_of K lane) ∷ [])))
          ≡ s.coming (discard_at (home_of K lane)) + weight (filter p (done_at (home_of K lane) ∷ []))
          = kept_here p (discard_at (home_of K lane)) (done_at (home_of K lane) ∷ []) c there in
          let second : weight (filter p (commit_at (home_of K lane) (length txs) ∷ (discard_at (home_of K lane) ∷ (done_at (home_of K lane) ∷ []))))
          ≡ s.coming (commit_at (home_of K lane) (length txs)) + weight (filter p (discard_at (home_of K lane) ∷ (done_at (home_of K lane) ∷ [])))
          = kept_here p (commit_at (home_of K lane) (length txs)) (discard_at (home_of K lane) ∷ (done_at (home_of K lane) ∷ [])) b there in
          omega (
            arith,
            second,
            third,
            fourth,
            kept_on p (prepare_at (home_of K lane) txs)
                (commit_at (home_of K lane) (length txs) ∷ (discard_at (home_of K lane) ∷ (done_at (home_of K lane) ∷ []))),
          )

  -- of a new batch at a shard with a part
  pub shard_in_records : (K : Shape) (lane : ℕ) (txs : List Compact) (j : ℕ) → j < K.shards → n ≡ shard_node K j → is_no_part (part K j 0 txs) ≡ false
      → s.coming (lock_at n (part K j 0 txs)) + (s.coming (finish_at n (length (part K j 0 txs))) + s.coming (forget_at n))
      ≤ weight (records_of K lane txs)
  shard_in_records K lane txs j lt e some =
      let all : (cs : List Coming) → filter (λ (c : Coming). true) cs ≡ cs = keeps_all in
      let own : s.coming (lock_at n (part K j 0 txs)) + (s.coming (finish_at n (length (part K j 0 txs))) + s.coming (forget_at n))
      ≤ weight (filter (λ (c : Coming). true) (coming_at_shard n (part K j 0 txs)))
      = from_lock (λ (c : Coming). true) (part K j 0 txs) some refl refl refl in
      let shard : weight (filter (λ (c : Coming). true) (coming_at_shard n (part K j 0 txs)))
      ≤ weight (filter (λ (c : Coming). true) (records_of K lane txs))
      = subst (λ k. weight (filter (λ (c : Coming). true) (coming_at_shard k (part K j 0 txs)))
      ≤ weight (filter (λ (c : Coming). true) (records_of K lane txs))) (sym e) (kept_shard K lane txs (λ (c : Coming). true) j lt) in
      omega (arith, own, shard, ap weight (all (records_of K lane txs)))
    where
      keeps_all : (cs : List Coming) → filter (λ (c : Coming). true) cs ≡ cs
      keeps_all [] = refl
      keeps_all (c ∷ cs) = ap (λ l. c ∷ l) (keeps_all cs)
