-- What is asked, or told, of values is asked, or told, of those that they are equal to.
use Rattle.std.proofs.Common.{◌≡◌, sym, subst}

pub asked_at : {A B C : Type 0} (R : A → B → C → Type 0) (a x : A) (b y : B) (c z : C) → x ≡ a → y ≡ b → z ≡ c → R a b c → R x y z
asked_at R a x b y c z e f g r = subst (λ t. R x y t) (sym g) (subst (λ t. R x t c) (sym f) (subst (λ t. R t b c) (sym e) r))

pub told_at : {A B C D E : Type 0} (R : A → B → C → D → E → Type 0) (a x : A) (b y : B) (c z : C) (d v : D) (e w : E) → a ≡ x → b ≡ y → c ≡ z → d ≡ v
    → e ≡ w → R a b c d e → R x y z v w
told_at R a x b y c z d v e w h i j k l r = subst (λ t. R x y z v t) l
    (subst (λ t. R x y z t e) k (subst (λ t. R x y t d e) j (subst (λ t. R x t c d e) i (subst (λ t. R t b c d e) h r))))
