-- Lists taken one after another, from the last to the first.
use Rattle.std.proofs.Common.{◌≡◌, ℕ, ◌<◌, List, [], ◌∷◌, ◌++◌, length, reverse, append_assoc, append-nil, refl, sym, ap, ◌∙◌, subst, arith}
use Rattle.std.specs.Vec.{vec_capacity}
use Rattle.std.specs.Global.{Vec}
use Rattle.lane_waves.specs.Dealing.{Pops, PopsEach, HaveOne, HaveRoomForOne}
use Rattle.lane_waves.proofs.Closing.{last_first}

module _ {T : Type 0} where
  pub one_last : (rs : List (Vec T)) (r : Vec T) → HaveOne (rs ++ r ∷ []) → HaveOne rs × (0 < length r.items)
  one_last [] r k = (tt, k.0)
  one_last (x ∷ rs) r k = let m = one_last rs r k.1 in ((k.0, m.0), m.1)

  pub room_last : (rs : List (Vec T)) (r : Vec T) → HaveRoomForOne (rs ++ r ∷ []) → HaveRoomForOne rs × (length r.items < vec_capacity r)
  room_last [] r k = (tt, k.0)
  room_last (x ∷ rs) r k = let m = room_last rs r k.1 in ((k.0, m.0), m.1)

  pub one_left : (all rs : List (Vec T)) (r : Vec T) → HaveOne all → all ≡ rs ++ r ∷ [] → HaveOne rs × (0 < length r.items)
  one_left all rs r k e = one_last rs r (subst HaveOne e k)

  pub room_left : (all rs : List (Vec T)) (r : Vec T) → HaveRoomForOne all → all ≡ rs ++ r ∷ []
      → HaveRoomForOne rs × (length r.items < vec_capacity r)
  room_left all rs r k e = room_last rs r (subst HaveRoomForOne e k)

  -- rows were all0; those behind `rows` are done, in `spare`, with `items`
  pub record Dealing (all rows spare : List (Vec T)) (items : List T) : Type 0 where
    pub done : List (Vec T)
    pub all_is : all ≡ rows ++ done
    pub taken : PopsEach done (reverse spare) (reverse items)

  pub dealing : (all spare : List (Vec T)) (items : List T) → spare ≡ [] → items ≡ [] → Dealing all all spare items
  dealing all spare items e f = record {
    done = [];
    all_is = sym (append-nil all);
    taken = subst (λ xs. PopsEach [] (reverse xs) (reverse items)) (sym e) (subst (λ ys. PopsEach {T = T} [] [] (reverse ys)) (sym f) tt);
  }

  pub deals_on : (all rows rows' spare spare' : List (Vec T)) (items items' : List T) (row row' : Vec T) (item : T) → Dealing all rows spare items
      → rows ≡ rows' ++ row ∷ [] → spare' ≡ spare ++ row' ∷ [] → items' ≡ items ++ item ∷ [] → Pops row row' item → Dealing all rows' spare' items'
  deals_on all rows rows' spare spare' items items' row row' item k e f h p = record {
    done = row ∷ k.done;
    all_is = k.all_is ∙ (ap (λ xs. xs ++ k.done) e ∙ append_assoc rows' (row ∷ []) k.done);
    taken = subst (λ xs. PopsEach (row ∷ k.done) xs (reverse items')) (sym (last_first spare spare' row' f))
        (subst (λ ys. PopsEach (row ∷ k.done) (row' ∷ reverse spare) ys) (sym (last_first items items' item h)) (p, k.taken));
  }

  pub dealt : (all rows spare : List (Vec T)) (items : List T) → Dealing all rows spare items → rows ≡ []
      → PopsEach all (reverse spare) (reverse items)
  dealt all rows spare items k e = subst (λ xs. PopsEach xs (reverse spare) (reverse items)) (sym (k.all_is ∙ ap (λ xs. xs ++ k.done) e)) k.taken

  pub record Gathering (all rows spare : List (Vec T)) (all_items items : List T) : Type 0 where
    pub done : List (Vec T)
    pub given : List T
    pub all_is : all ≡ rows ++ done
    pub items_is : all_items ≡ items ++ given
    pub added : PopsEach (reverse spare) done given

  pub gathering : (all spare : List (Vec T)) (items : List T) → spare ≡ [] → Gathering all all spare items items
  gathering all spare items e = record {
    done = [];
    given = [];
    all_is = sym (append-nil all);
    items_is = sym (append-nil items);
    added = subst (λ xs. PopsEach {T = T} (reverse xs) [] []) (sym e) tt;
  }

  pub gathers_on : (all rows rows' spare spare' : List (Vec T)) (all_items items items' : List T) (row row' : Vec T) (item : T)
      → Gathering all rows spare all_items items → rows ≡ rows' ++ row ∷ [] → spare' ≡ spare ++ row' ∷ [] → items ≡ items' ++ item ∷ []
      → Pops row' row item → Gathering all rows' spare' all_items items'
  gathers_on all rows rows' spare spare' all_items items items' row row' item k e f h p = record {
    done = row ∷ k.done;
    given = item ∷ k.given;
    all_is = k.all_is ∙ (ap (λ xs. xs ++ k.done) e ∙ append_assoc rows' (row ∷ []) k.done);
    items_is = k.items_is ∙ (ap (λ xs. xs ++ k.given) h ∙ append_assoc items' (item ∷ []) k.given);
    added = subst (λ xs. PopsEach xs (row ∷ k.done) (item ∷ k.given)) (sym (last_first spare spare' row' f)) (p, k.added);
  }

  pub gathered : (all rows spare : List (Vec T)) (all_items items : List T) → Gathering all rows spare all_items items → rows ≡ [] → items ≡ []
      → PopsEach (reverse spare) all all_items
  gathered all rows spare all_items items k e f =
      subst (λ xs. PopsEach (reverse spare) xs all_items) (sym (k.all_is ∙ ap (λ xs. xs ++ k.done) e))
      (subst (λ ys. PopsEach (reverse spare) k.done ys) (sym (k.items_is ∙ ap (λ ys. ys ++ k.given) f)) k.added)
