-- The arguments of the commands that name files.
use Rattle.std.proofs.Common.{◌≡◌, ◌∙◌, true, false, List, inl, inr, refl, sym, true≢false}
use Rattle.std.specs.Prelude.{is_some}
use Rattle.std.specs.List.{AllByRecursion}
use Rattle.clap.specs.Simple.{Shape, built, built_leaf, inherited, marked_built, with_leaf_noted}
use Rattle.clap.specs.Walk.{Rule}
use Rattle.command_line.specs.Command.{audit_shape, hamilton, init_shape, run_shape}
use Rattle.command_line.proofs.Steps.{IsFlag, IsKnown, IsOption, IsPlace}

is_flag : (c : List Rule) (a : Rule) → is_some a.index ≡ false → IsFlag a → IsKnown c a
is_flag c a none flag = (λ e. inl flag, λ e. absurd (true≢false (sym e ∙ none)))

is_option : (c : List Rule) (a : Rule) → IsOption c a → IsKnown c a
is_option c a opt = (λ e. inr opt, λ e. absurd (true≢false (sym e ∙ opt.named)))

is_place : (c : List Rule) (a : Rule) → is_some a.index ≡ true → IsPlace c a → IsKnown c a
is_place c a some place = (λ e. absurd (true≢false (sym some ∙ e)), λ e. place)

-- a command below the program, as it is built
abbrev pub leaf : Shape → Shape
leaf s = built_leaf (inherited (with_leaf_noted (marked_built hamilton.top)) s)

abbrev pub AreKnown : Shape → Type 0
AreKnown s = AllByRecursion (IsKnown s.rules) s.rules

pub top_known : AreKnown (built hamilton).top
top_known = (
  is_flag _ _ refl (record { takes = refl; told = λ rows e. absurd (cc) }),
  (is_flag _ _ refl (record { takes = refl; told = λ rows e. absurd (cc) }), tt),
)

pub init_known : AreKnown (leaf init_shape)
init_known = (
  is_option _ _ (record {
    named = refl;
    takes = refl;
    most = refl;
    wants = λ rows e. absurd (cc);
    found = refl;
    taken = record { action = inl refl; missing = refl };
    short = λ x. refl;
  }),
  (
    is_option _ _ (record {
      named = refl;
      takes = refl;
      most = refl;
      wants = λ rows e. absurd (cc);
      found = refl;
      taken = record { action = inl refl; missing = refl };
      short = λ x. refl;
    }),
    (
      is_option _ _ (record {
        named = refl;
        takes = refl;
        most = refl;
        wants = λ rows e. absurd (cc);
        found = refl;
        taken = record { action = inl refl; missing = refl };
        short = λ x. refl;
      }),
      (
        is_option _ _ (record {
          named = refl;
          takes = refl;
          most = refl;
          wants = λ rows e. absurd (cc);
          found = refl;
          taken = record { action = inl refl; missing = refl };
          short = λ x. refl;
        }),
        (
          is_place _ _ refl (record { found = refl; taken = record { action = inl refl; missing = refl }; last = refl }),
          (is_flag _ _ refl (record { takes = refl; told = λ rows e. absurd (cc) }), tt),
        ),
      ),
    ),
  ),
)

pub run_known : AreKnown (leaf run_shape)
run_known = (
  is_option _ _ (record {
    named = refl;
    takes = refl;
    most = refl;
    wants = λ rows e. absurd (cc);
    found = refl;
    taken = record { action = inl refl; missing = refl };
    short = λ x. refl;
  }),
  (
    is_option _ _ (record {
      named = refl;
      takes = refl;
      most = refl;
      wants = λ rows e. absurd (cc);
      found = refl;
      taken = record { action = inl refl; missing = refl };
      short = λ x. refl;
    }),
    (
      is_place _ _ refl (record { found = refl; taken = record { action = inr refl; missing = refl }; last = refl }),
      (is_flag _ _ refl (record { takes = refl; told = λ rows e. absurd (cc) }), tt),
    ),
  ),
)

pub audit_known : AreKnown (leaf audit_shape)
audit_known = (
  is_place _ _ refl (record { found = refl; taken = record { action = inl refl; missing = refl }; last = refl }),
  (
    is_place _ _ refl (record { found = refl; taken = record { action = inr refl; missing = refl }; last = refl }),
    (is_flag _ _ refl (record { takes = refl; told = λ rows e. absurd (cc) }), tt),
  ),
)
