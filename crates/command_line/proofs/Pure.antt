-- The faults that clap may find in words are no wish and mistake at once, where it has no `help` command of its own.
use Rattle.std.proofs.Common.{◌≡◌, ◌⊎◌, ◌&&◌, ◌||◌, ◌==◌, ◌+◌, min, nat_lt, ℕ, zero, suc, Bool, true, false, not, if◌then◌else◌, codes, List, [], ◌∷◌}
use Rattle.std.proofs.Common.{length, drop, Option, Some, None, is_some, inl, inr, refl, sym, ap, subst, true≢false}
use Rattle.std.specs.Prelude.{IsTrue, encode_utf8, slice_get, find}
use Rattle.std.specs.List.{list_any}
use Rattle.std.specs.Option.{option_map_or}
use Rattle.std.specs.Str.{bytes_eq, chars}
use Rattle.clap.specs.Values.{refused_kind}
use Rattle.clap.specs.ValueTests.{accepts}
use Rattle.clap.specs.Matches.{count_text}
use Rattle.clap.specs.Takes.{is_given}
use Rattle.clap.specs.Facts.{explicit_source, parser_of_value, unwrap_or_range}
use Rattle.clap.specs.Lexer.{short_of, long_of}
use Rattle.clap.specs.Kinds.{IsAmong, Kinds, or_else, value_kinds, values_kinds, range_kinds, request_kinds, check_kinds}
use Rattle.clap.specs.Walk.{Held, Names, Row, Rule, Step, Text, Waiting, Walk, idle, option, positional, value, next, trailing, subcommand, action_of}
use Rattle.clap.specs.Walk.{answers_to, arg_by_id, arg_by_index, arg_by_long, arg_by_short, attached_value, count_of, finished, has_row, is_empty}
use Rattle.clap.specs.Walk.{is_pending, most_values, nothing_held, reacted, settled, subcommand_met, takes_several, takes_values, values_or_missing}
use Rattle.clap.specs.Walk.{walk, walk_from, walked, with_default, word_met}
use Rattle.clap.specs.Simple.{App, Shape, argument_words, built, entered, label_of, names_of}
use Rattle.clap.specs.Faults.{action_fault, built_fault, bundle_fault, bundle_step_fault, check_fault, count_fault, default_fault, defaults_fault}
use Rattle.clap.specs.Faults.{entered_fault, fault_of, flag_word_fault, flags_fault, level_fault, long_fault, option_fault, other_fault}
use Rattle.clap.specs.Faults.{positional_fault, react_fault, repeat_fault, set_fault, settle_fault, short_fault, step_fault, stray_fault, turn_fault}
use Rattle.clap.specs.Faults.{use_fault, values_fault, walk_fault, word_fault}
use Rattle.clap.specs.declared.builder.action.ArgAction.{ArgAction}
use Rattle.clap.specs.declared.builder.action.ArgAction.TheVariants.{Set, Append, SetTrue, SetFalse, Count, Help, HelpShort, HelpLong, Version}
use Rattle.clap.specs.declared.builder.value_parser.ValueParser.{ValueParser}
use Rattle.clap.specs.declared.error.kind.ErrorKind.{ErrorKind}
use Rattle.clap.specs.declared.error.kind.ErrorKind.TheVariants.{ArgumentConflict, DisplayHelp, DisplayHelpOnMissingArgumentOrSubcommand}
use Rattle.clap.specs.declared.error.kind.ErrorKind.TheVariants.{DisplayVersion, InvalidSubcommand, InvalidValue, MissingRequiredArgument}
use Rattle.clap.specs.declared.error.kind.ErrorKind.TheVariants.{MissingSubcommand, TooFewValues, TooManyValues, UnknownArgument, WrongNumberOfValues}
use Rattle.command_line.specs.Asked.{HasMistake, HasWish, is_mistake, is_wish}

-- no wish and mistake at once
pub record IsPure (kinds : Kinds) : Type 0 where
  pub apart : HasMistake kinds → HasWish kinds → ⊥

-- ---- lists

one_or_other : (k : ErrorKind) → IsTrue (is_mistake k) → IsTrue (is_wish k) → ⊥
one_or_other DisplayHelp m w = true≢false (sym m)
one_or_other DisplayVersion m w = true≢false (sym m)
one_or_other _ m w = true≢false (sym w)

only : (k x : ErrorKind) (P : ErrorKind → Type 0) → IsAmong x (k ∷ []) → P x → P k
only k x P (inl e) h = subst P e h
only k x P (inr none) h = absurd none

pub none : IsPure []
none = record { apart = λ m w. absurd m.1 }

pub one : (k : ErrorKind) → IsPure (k ∷ [])
one k = record {
  apart = λ m w. one_or_other k (only k m.0 (λ x. IsTrue (is_mistake x)) m.1 m.2) (only k w.0 (λ x. IsTrue (is_wish x)) w.1 w.2);
}

pub after : (a b : Kinds) → IsPure a → IsPure b → IsPure (or_else a b)
after [] b p q = q
after (k ∷ ks) b p q = p

pub either : (c : Bool) (a b : Kinds) → IsPure a → IsPure b → IsPure (if c then a else b)
either true a b p q = p
either false a b p q = q

map_or : {A : Type 0} (f : A → Kinds) (o : Option A) (d : Kinds) → ((a : A) → IsPure (f a)) → IsPure d → IsPure (option_map_or f o d)
map_or f None d each p = p
map_or f (Some a) d each p = each a

-- ---- one use of an argument

value_pure : (i : Bool) (p : ValueParser) (text : Text) → IsPure (value_kinds i p text)
value_pure i p text = either (accepts i p text) [] (refused_kind p ∷ []) none (one (refused_kind p))

values_pure : (i : Bool) (p : ValueParser) (texts : List Text) → IsPure (values_kinds i p texts)
values_pure i p [] = none
values_pure i p (v ∷ vs) = after (value_kinds i p v) (values_kinds i p vs) (value_pure i p v) (values_pure i p vs)

ranges : (a b c d e : Bool)
    → IsPure (if a then InvalidValue ∷ [] else (if b then (if c then [] else WrongNumberOfValues ∷ [])
    else (if d then TooFewValues ∷ [] else (if e then TooManyValues ∷ [] else []))))
ranges true b c d e = one InvalidValue
ranges false true true d e = none
ranges false true false d e = one WrongNumberOfValues
ranges false false c true e = one TooFewValues
ranges false false c false true = one TooManyValues
ranges false false c false false = none

range_pure : (least most n : ℕ) → IsPure (range_kinds least most n)
range_pure least most n = ranges (nat_lt 0 least && n == 0) (least == most) (least == n) (nat_lt n least) (nat_lt most n)

request_pure : (x : ArgAction) → IsPure (request_kinds x)
request_pure Help = one DisplayHelp
request_pure HelpShort = one DisplayHelp
request_pure HelpLong = one DisplayHelp
request_pure Version = one DisplayVersion
request_pure _ = none

uses_pure : (a : Rule) (values : List Text) → IsPure (values_fault a values)
uses_pure a values = values_pure a.ignore_case (parser_of_value a.parser) values

count_pure : (a : Rule) (values : List Text) (rows : List Row) → IsPure (count_fault a values rows)
count_pure a [] rows = value_pure a.ignore_case (parser_of_value a.parser) (count_text (min (count_of a.id rows + 1) 255))
count_pure a (v ∷ vs) rows = uses_pure a (v ∷ vs)

set_pure : (again : Bool) (a : Rule) (values : List Text) (rows : List Row) → IsPure (set_fault again a values rows)
set_pure again a values rows = after (repeat_fault again a.id rows) (values_fault a values)
    (either (has_row a.id rows && not again) (ArgumentConflict ∷ []) [] (one ArgumentConflict) none) (uses_pure a values)

action_pure : (x : ArgAction) (again : Bool) (a : Rule) (values : List Text) (rows : List Row) → IsPure (action_fault x again a values rows)
action_pure Set again a values rows = set_pure again a values rows
action_pure SetTrue again a values rows = set_pure again a values rows
action_pure SetFalse again a values rows = set_pure again a values rows
action_pure Append again a values rows = uses_pure a values
action_pure Count again a values rows = count_pure a values rows
action_pure other again a values rows = request_pure other

use_pure : (again : Bool) (a : Rule) (values : List Text) (rows : List Row) → IsPure (use_fault again a values rows)
use_pure again a values rows =
    after (range_kinds (unwrap_or_range a.range).start_inclusive (most_values a) (length values))
    (action_fault (action_of a) again a (values_or_missing a values) rows)
    (range_pure (unwrap_or_range a.range).start_inclusive (most_values a) (length values))
    (action_pure (action_of a) again a (values_or_missing a values) rows)

-- ---- the words of flags

module _ (c : List Rule) (again : Bool) where
  settle_pure : (h : Held) → IsPure (settle_fault c again h)
  settle_pure h =
      map_or (λ p. option_map_or (λ a. use_fault again a p.1 h.rows) (arg_by_id c p.0) []) h.pending []
      (λ p. map_or (λ a. use_fault again a p.1 h.rows) (arg_by_id c p.0) [] (λ a. use_pure again a p.1 h.rows) none) none

  react_pure : (a : Rule) (values : List Text) (h : Held) → IsPure (react_fault c again a values h)
  react_pure a values h = after (settle_fault c again h) (use_fault again a values (settled c h).rows) (settle_pure h)
      (use_pure again a values (settled c h).rows)

  option_pure : (a : Rule) (v : Option Text) (h : Held) → IsPure (option_fault c again a v h)
  option_pure a (Some v) h = react_pure a (v ∷ []) h
  option_pure a None h = settle_pure h

  long_pure : (o : Option Rule) (v : Option Text) (h : Held) → IsPure (long_fault c again o v h)
  long_pure None v h = one UnknownArgument
  long_pure (Some a) v h =
      either (takes_values a) (option_fault c again a v h) (if is_some v then TooManyValues ∷ [] else react_fault c again a [] h) (option_pure a v h)
      (either (is_some v) (TooManyValues ∷ []) (react_fault c again a [] h) (one TooManyValues) (react_pure a [] h))

  short_pure : (o : Option Rule) (rest : Text) (h : Held) (more : Held → Kinds) → ((g : Held) → IsPure (more g))
      → IsPure (short_fault c again o rest h more)
  short_pure None rest h more pure = one UnknownArgument
  short_pure (Some a) rest h more pure =
      either (takes_values a) (option_fault c again a (attached_value rest) h) (or_else (react_fault c again a [] h) (more (reacted c a [] h)))
      (option_pure a (attached_value rest) h)
      (after (react_fault c again a [] h) (more (reacted c a [] h)) (react_pure a [] h) (pure (reacted c a [] h)))

  step_of_bundle : (o : Option ℕ) (flags : Text) (skip : ℕ) (h : Held) (more : Text → ℕ → Held → Kinds)
      → ((t : Text) (n : ℕ) (g : Held) → IsPure (more t n g))
      → IsPure (bundle_step_fault c again o flags skip h more)
  step_of_bundle None flags skip h more pure = none
  step_of_bundle (Some x) flags zero h more pure =
      let rest = drop (length (encode_utf8 x)) flags in
      short_pure (arg_by_short c x) rest h (more rest 0) (pure rest 0)
  step_of_bundle (Some x) flags (suc skip) h more pure = pure (drop (length (encode_utf8 x)) flags) skip h

  flags_pure : (k : ℕ) (flags : Text) (skip : ℕ) (h : Held) → IsPure (flags_fault c again k flags skip h)
  unfolding flags_fault
  flags_pure zero flags skip h = none
  flags_pure (suc k) flags skip h = step_of_bundle (slice_get (chars flags) 0) flags skip h (flags_fault c again k) (flags_pure k)

  flag_word_pure : (o : Option (Text × Option Text)) (word : Text) (h : Held) → IsPure (flag_word_fault c again o word h)
  flag_word_pure (Some p) word h = long_pure (arg_by_long c p.0) p.1 h
  flag_word_pure None word h = map_or (λ flags. bundle_fault c again flags h) (short_of word) []
      (λ flags. flags_pure (length flags) flags h.skip (record h { skip = 0 })) none

-- ---- the walk

-- clap's own `help` command is not met
abbrev IsQuiet : Shape → Names → Type 0
IsQuiet s names = (s.disable_help_subcommand ≡ true) ⊎ (names ≡ [])

never : (b : Bool) → IsPure (if b && not true then DisplayHelp ∷ InvalidSubcommand ∷ [] else [])
never true = none
never false = none

other_pure : (s : Shape) (met : Option Text) (word : Text) (h : Held) → (s.disable_help_subcommand ≡ true) ⊎ (met ≡ None)
    → IsPure (other_fault s met word h)
other_pure s (Some name) word h (inl off) =
    subst (λ d. IsPure (if bytes_eq name (codes "help") && not d then DisplayHelp ∷ InvalidSubcommand ∷ [] else [])) (sym off)
    (never (bytes_eq name (codes "help")))
other_pure s (Some name) word h (inr e) = absurd (true≢false (ap is_some e))
other_pure s None word h q = either (bytes_eq word (45 ∷ 45 ∷ [])) [] (flag_word_fault s.rules s.args_override_self (long_of word) word h) none
    (flag_word_pure s.rules s.args_override_self (long_of word) word h)

none_met : (waiting : Waiting) (word : Text) → subcommand_met [] waiting word ≡ None
none_met idle word = refl
none_met (option id) word = refl
none_met positional word = refl

is_quiet : (s : Shape) (names : Names) (waiting : Waiting) (word : Text) → IsQuiet s names
    → (s.disable_help_subcommand ≡ true) ⊎ (subcommand_met names waiting word ≡ None)
is_quiet s names waiting word (inl off) = inl off
is_quiet s names waiting word (inr e) = inr (subst (λ n. subcommand_met n waiting word ≡ None) (sym e) (none_met waiting word))

stray_wish : (k : ErrorKind) → IsAmong k (UnknownArgument ∷ InvalidSubcommand ∷ []) → IsTrue (is_wish k) → ⊥
stray_wish k (inl e) w = true≢false (sym (subst (λ x. IsTrue (is_wish x)) e w))
stray_wish k (inr (inl e)) w = true≢false (sym (subst (λ x. IsTrue (is_wish x)) e w))
stray_wish k (inr (inr none)) w = absurd none

stray_pure : (s : Shape) → IsPure (stray_fault s)
stray_pure s = either s.is_leaf (UnknownArgument ∷ []) (UnknownArgument ∷ InvalidSubcommand ∷ []) (one UnknownArgument)
    (record { apart = λ m w. stray_wish w.0 w.1 w.2 })

positional_pure : (c : List Rule) (again : Bool) (a : Rule) (h : Held) → IsPure (positional_fault c again a h)
positional_pure c again a h = either (is_pending a h.pending && takes_several a) [] (settle_fault c again h) none (settle_pure c again h)

step_pure : (s : Shape) (position : ℕ) (h : Held) (step : Step) → IsPure (step_fault s position h step)
step_pure s position h value =
    map_or (λ a. positional_fault s.rules s.args_override_self a h) (arg_by_index s.rules position) (stray_fault s)
    (λ a. positional_pure s.rules s.args_override_self a h) (stray_pure s)
step_pure s position h (next waiting) = none
step_pure s position h (trailing n) = none
step_pure s position h (subcommand name) = none

module _ (s : Shape) (names : Names) (quiet : IsQuiet s names) where
  word_pure : (is_trailing : Bool) (waiting : Waiting) (word : Text) (h : Held) → IsPure (word_fault s names is_trailing waiting word h)
  word_pure is_trailing waiting word h =
      either is_trailing [] (other_fault s (subcommand_met names waiting word) word h) none
      (other_pure s (subcommand_met names waiting word) word h (is_quiet s names waiting word quiet))

  turn_pure : (w : Walk) (word : Text) → IsPure (turn_fault s names w word)
  turn_pure w word =
      let met = word_met s.rules names w.is_trailing w.waiting w.position word w.held in
      either (is_some w.stopped) [] (or_else (word_fault s names w.is_trailing w.waiting word w.held) (step_fault s w.position met.0 met.1)) none
      (after (word_fault s names w.is_trailing w.waiting word w.held) (step_fault s w.position met.0 met.1)
      (word_pure w.is_trailing w.waiting word w.held) (step_pure s w.position met.0 met.1))

  walk_pure : (w : Walk) (words : List Text) → IsPure (walk_fault s names w words)
  unfolding walk_fault
  walk_pure w [] = none
  walk_pure w (word ∷ rest) = after (turn_fault s names w word) (walk_fault s names (walked s.rules names w word) rest) (turn_pure w word)
      (walk_pure (walked s.rules names w word) rest)

-- ---- after the walk

default_pure : (rows : List Row) (a : Rule) → IsPure (default_fault rows a)
default_pure rows a =
    either (has_row a.id rows || is_empty a.defaults) [] (or_else (request_kinds (action_of a)) (values_fault a a.defaults)) none
    (after (request_kinds (action_of a)) (values_fault a a.defaults) (request_pure (action_of a)) (uses_pure a a.defaults))

defaults_pure : (rows : List Row) (rules : List Rule) → IsPure (defaults_fault rows rules)
unfolding defaults_fault
defaults_pure rows [] = none
defaults_pure rows (a ∷ rest) = after (default_fault rows a) (defaults_fault (with_default rows a) rest) (default_pure rows a)
    (defaults_pure (with_default rows a) rest)

check_pure : (a b c : Bool) → IsPure (check_kinds a b c)
check_pure true b c = one DisplayHelpOnMissingArgumentOrSubcommand
check_pure false true c = one MissingSubcommand
check_pure false false true = one MissingRequiredArgument
check_pure false false false = none

checked_pure : (s : Shape) (rows : List Row) (has : Bool) → IsPure (check_fault s rows has)
checked_pure s rows has =
    check_pure (not has && (s.arg_required_else_help && not (list_any (λ r. explicit_source r.source) rows))) (not has && s.subcommand_required)
    (not (s.subcommand_negates_reqs && has) && list_any (λ a. a.required && not (is_given a.id rows)) s.rules)

level_pure : (s : Shape) (names : Names) (h : Held) (words : List Text) (has : Bool) (below : Kinds) → IsQuiet s names → IsPure below
    → IsPure (level_fault s names h words has below)
level_pure s names h words has below quiet pure =
    let end = (walk s.rules names h words).held in
    let last = defaults_fault (settled s.rules end).rows s.rules in
    let check = check_fault s (finished s.rules end) has in
    let settle = settle_fault s.rules s.args_override_self end in
    after (walk_fault s names (walk_from h) words) (or_else below (or_else settle (or_else last check))) (walk_pure s names quiet (walk_from h) words)
    (after below (or_else settle (or_else last check)) pure
    (after settle (or_else last check) (settle_pure s.rules s.args_override_self end)
    (after last check (defaults_pure (settled s.rules end).rows s.rules) (checked_pure s (finished s.rules end) has))))

entered_pure : (a : App) (stop : Option (Text × List Text)) → IsPure (entered_fault a stop)
entered_pure a stop =
    map_or (λ p. option_map_or (λ s. level_fault s [] nothing_held p.1 false []) (find (λ s. answers_to p.0 (label_of s)) a.subs) []) stop []
    (λ p. map_or (λ s. level_fault s [] nothing_held p.1 false []) (find (λ s. answers_to p.0 (label_of s)) a.subs) []
    (λ s. level_pure s [] nothing_held p.1 false [] (inr refl) none) none) none

built_pure : (a : App) (h : Held) (words : List Text) → a.top.disable_help_subcommand ≡ true → IsPure (built_fault a h words)
built_pure a h words off =
    let stop = (walk a.top.rules (names_of a) h words).stopped in
    level_pure a.top (names_of a) h words (is_some (entered a stop)) (entered_fault a stop) (inl off) (entered_pure a stop)

pub fault_pure : (a : App) (words : List Text) → (built a).top.disable_help_subcommand ≡ true → IsPure (fault_of a words)
fault_pure a words off = built_pure (built a) nothing_held (argument_words a words) off
