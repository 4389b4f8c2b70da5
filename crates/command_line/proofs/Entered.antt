-- The command that the words name, and the words behind it.
use Rattle.std.proofs.Common.{◌≡◌, ◌∙◌, ◌&&◌, Bool, true, false, not, List, [], ◌∷◌, drop, Option, Some, None, refl, sym, ap, subst, true≢false}
use Rattle.std.specs.Prelude.{find, is_some}
use Rattle.std.specs.List.{AllByRecursion, fold}
use Rattle.std.specs.Option.{option_map, option_map_or}
use Rattle.clap.proofs.WalkLemmas.{walk_stopped}
use Rattle.clap.specs.Faults.{check_fault, defaults_fault, entered_fault, flag_word_fault, level_fault, long_fault, other_fault, settle_fault}
use Rattle.clap.specs.Faults.{step_fault, stray_fault, turn_fault, walk_fault}
use Rattle.clap.specs.Kinds.{or_else}
use Rattle.clap.specs.Lexer.{long_of}
use Rattle.clap.specs.Simple.{App, Shape, built, entered, label_of, names_of, rows_at}
use Rattle.clap.specs.Walk.{Held, Names, Row, Rule, Text, Walk, answers_to, arg_by_long, finished, has_long, idle, nothing_held, rows_after, settled}
use Rattle.clap.specs.Walk.{subcommand_met, subcommand_or_other, takes_values, value, walk, walked}
use Rattle.command_line.specs.Asked.{NameCommand}
use Rattle.command_line.specs.Command.{hamilton}
use Rattle.command_line.specs.Places.{is_dashes}
use Rattle.command_line.proofs.Known.{top_known}
use Rattle.command_line.proofs.Steps.{find_is, held, long_is, plain_is, stray_is, walk_at}
use Rattle.command_line.proofs.WordValues.{none≢some, or_else-nil}

abbrev app : App
app = built hamilton

abbrev top : Shape
top = app.top

abbrev names : Names
names = names_of app

abbrev start : Walk
start = walk_at [] None idle 1 false

abbrev stop : List Text → Option (Text × List Text)
stop ws = (fold (walked top.rules names) start ws).stopped

-- the program's own flags take no value
no_values : AllByRecursion (λ (a : Rule). takes_values a ≡ false) top.rules
no_values = (refl, (refl, tt))

long_told : (name : Text) (v : Option Text) → long_fault top.rules false (arg_by_long top.rules name) v (held [] None) ≡ [] → ⊥
long_told name v fault =
    let l = long_is top top_known refl name v [] None fault in
    let none = find_is (λ (a : Rule). takes_values a ≡ false) (λ a. not (is_some a.index) && has_long a name) top.rules l.a no_values l.named in
    true≢false (sym l.is.takes ∙ none.0)

-- no word but a command is taken: no flag without a fault
no_other : (w : Text) → is_dashes w ≡ false → other_fault top None w (held [] None) ≡ []
    → step_fault top 1 (subcommand_or_other top.rules None idle 1 w (held [] None)).0 (subcommand_or_other top.rules None idle 1 w (held [] None)).1
    ≡ [] → ⊥
no_other w dashes other step = go (long_of w) refl
  where
    go : (o : Option (Text × Option Text)) → long_of w ≡ o → ⊥
    go (Some (name, v)) is = let fault : long_fault top.rules false (arg_by_long top.rules name) v (held [] None) ≡ [] = rw (dashes, is) at other in
        long_told name v fault
    go None is =
        let fault : flag_word_fault top.rules false None w (held [] None) ≡ [] = rw (dashes, is) at other in
        let met : subcommand_or_other top.rules None idle 1 w (held [] None) ≡ (held [] None, value) =
        rw (dashes, is) (plain_is top top_known refl idle w [] None fault) in
        let stray : stray_fault top ≡ [] = subst (λ (r : Held × _). step_fault top 1 r.0 r.1 ≡ []) met step in
        stray_is top stray

-- nothing is taken behind a `--` that comes first
never_stops : (ws : List Text) → walk_fault top names (walk_at [] None idle 1 true) ws ≡ []
    → (fold (walked top.rules names) (walk_at [] None idle 1 true) ws).stopped ≡ None
unfolding walk_fault
never_stops [] fault = refl
never_stops (x ∷ ws) fault =
    let turn = (or_else-nil (turn_fault top names (walk_at [] None idle 1 true) x)
    (walk_fault top names (walked top.rules names (walk_at [] None idle 1 true) x) ws) fault).0 in
    let stray : stray_fault top ≡ [] = turn in
    absurd (stray_is top stray)

-- the words behind the command's name are all the others
pub rest_is : (ws : List Text) (p : Text × List Text) → walk_fault top names start ws ≡ [] → stop ws ≡ Some p → p.1 ≡ drop 1 ws
unfolding walk_fault walked
rest_is [] p fault stopped = absurd (none≢some p stopped)
rest_is (w ∷ ws) p fault stopped = go (subcommand_met names idle w) refl
  where
    parts : (turn_fault top names start w ≡ []) × (walk_fault top names (walked top.rules names start w) ws ≡ [])
    parts = or_else-nil (turn_fault top names start w) (walk_fault top names (walked top.rules names start w) ws) fault

    go : (o : Option Text) → subcommand_met names idle w ≡ o → p.1 ≡ drop 1 (w ∷ ws)
    go (Some name) is =
        let at_command : walked top.rules names start w ≡ record start { stopped = Some (name, []) } = rw is refl in
        let all : stop (w ∷ ws) ≡ Some (name, ws) =
        ap (λ (v : Walk). (fold (walked top.rules names) v ws).stopped) at_command
        ∙ sym (ap (λ (v : Walk). v.stopped) (walk_stopped top.rules names start name [] ws))
        in
        let same : Some (name, ws) ≡ Some p = sym all ∙ stopped in
        sym (ap (λ (o : Option (Text × List Text)). option_map_or (λ q. q.1) o []) same)
    go None is = dash (is_dashes w) refl
      where
        dash : (b : Bool) → is_dashes w ≡ b → p.1 ≡ drop 1 (w ∷ ws)
        dash true dashes =
            let past : walked top.rules names start w ≡ walk_at [] None idle 1 true = rw (is, dashes) refl in
            let sound : walk_fault top names (walk_at [] None idle 1 true) ws ≡ [] =
            subst (λ (v : Walk). walk_fault top names v ws ≡ []) past parts.1 in
            let none : None ≡ Some p = sym (ap (λ (v : Walk). (fold (walked top.rules names) v ws).stopped) past ∙ never_stops ws sound) ∙ stopped in
            absurd (none≢some p none)
        dash false dashes =
            let both_of = λ (o : Option Text).
            or_else (other_fault top o w (held [] None))
            (step_fault top 1 (subcommand_or_other top.rules o idle 1 w (held [] None)).0 (subcommand_or_other top.rules o idle 1 w (held [] None)).1)
            in
            let turn : both_of None ≡ [] = subst (λ (o : Option Text). both_of o ≡ []) is parts.0 in
            let each = or_else-nil (other_fault top None w (held [] None))
            (step_fault top 1 (subcommand_or_other top.rules None idle 1 w (held [] None)).0
            (subcommand_or_other top.rules None idle 1 w (held [] None)).1) turn
            in
            absurd (no_other w dashes each.0 each.1)

-- the command that was met, with what it takes of the words behind its name
pub record Entered (P : Shape → Type 0) (words : List Text) (command : Text) (rows : List Row) : Type 0 where
  pub shape : Shape
  pub is : P shape
  pub named : shape.name ≡ command
  pub taken : rows ≡ rows_after shape.rules [] (drop 2 words)
  pub sound : level_fault shape [] nothing_held (drop 2 words) false [] ≡ []

pub entered_is : (P : Shape → Type 0) → AllByRecursion P app.subs → (words : List Text) (command : Text) (rows : List Row)
    → NameCommand words command rows → Entered P words command rows
entered_is P all words command rows m = at_stop (stop (drop 1 words)) refl
  where
    ws : List Text
    ws = drop 1 words

    parts : (walk_fault top names start ws ≡ []) × (entered_fault app (stop ws) ≡ [])
    parts =
        let end = (walk top.rules names nothing_held ws).held in
        let last = or_else (settle_fault top.rules top.args_override_self end)
        (or_else (defaults_fault (settled top.rules end).rows top.rules)
        (check_fault top (finished top.rules end) (is_some (entered app (stop ws))))) in
        let outer = or_else-nil (walk_fault top names start ws) (or_else (entered_fault app (stop ws)) last) m.sound in
        (outer.0, (or_else-nil (entered_fault app (stop ws)) last outer.1).0)

    at_stop : (o : Option (Text × List Text)) → stop ws ≡ o → Entered P words command rows
    at_stop None is = absurd (none≢some (command, rows) (sym (ap (λ o. entered app o) is) ∙ m.met))
    at_stop (Some p) is = at_shape (find (λ s. answers_to p.0 (label_of s)) app.subs) refl
      where
        rest : p.1 ≡ drop 2 words
        rest = rest_is ws p parts.0 is ∙ two words
          where
            two : (l : List Text) → drop 1 (drop 1 l) ≡ drop 2 l
            two [] = refl
            two (x ∷ xs) = refl

        met : option_map (λ s. rows_at s p.1) (find (λ s. answers_to p.0 (label_of s)) app.subs) ≡ Some (command, rows)
        met = sym (ap (λ o. entered app o) is) ∙ m.met

        below : option_map_or (λ s. level_fault s [] nothing_held p.1 false []) (find (λ s. answers_to p.0 (label_of s)) app.subs) [] ≡ []
        below = sym (ap (λ o. entered_fault app o) is) ∙ parts.1

        at_shape : (o : Option Shape) → find (λ s. answers_to p.0 (label_of s)) app.subs ≡ o → Entered P words command rows
        at_shape None found = absurd (none≢some (command, rows) (sym (ap (option_map (λ (s : Shape). rows_at s p.1)) found) ∙ met))
        at_shape (Some s) found =
            let same : Some (rows_at s p.1) ≡ Some (command, rows) = sym (ap (option_map (λ (t : Shape). rows_at t p.1)) found) ∙ met in
            let first = λ (o : Option (Text × List Row)). option_map_or (λ q. q.0) o [] in
            let second = λ (o : Option (Text × List Row)). option_map_or (λ q. q.1) o [] in
            record {
              shape = s;
              is = (find_is P (λ t. answers_to p.0 (label_of t)) app.subs s all found).0;
              named = ap first same;
              taken = sym (ap second same) ∙ ap (λ (l : List Text). rows_after s.rules [] l) rest;
              sound = subst (λ (l : List Text). level_fault s [] nothing_held l false [] ≡ []) rest
                  (sym (ap (λ (o : Option Shape). option_map_or (λ t. level_fault t [] nothing_held p.1 false []) o []) found) ∙ below);
            }

abbrev pub below_app : (Shape → Type 0) → Type 0
below_app P = AllByRecursion P app.subs
