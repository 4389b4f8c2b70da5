-- Calls that are given something to change.
use Rattle.std.specs.Prelude.{◌≡◌}
use denote.Ref.{MutBor}
use denote.Param.Members.{Shared}

module _ {F T : Type 0} (g : Shared F (MutBor T × Unit {0}) (Unit {0} × (MutBor T × Unit {0}))) (f : F) where
  -- f may be called with a `&mut` to x
  abbrev pub MayChange : T → Type 0
  MayChange x = (it : MutBor T) → it.now ≡ x → g.pre f (it, tt)

  -- such a call may leave y
  pub record HasChanged (x y : T) : Type 0 where
    pub it : MutBor T
    pub it_is : it.now ≡ x
    pub after_call : MutBor T
    pub made : g.post f (it, tt) (tt, (after_call, tt))
    pub left : after_call.now ≡ y
