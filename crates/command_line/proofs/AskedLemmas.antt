-- What the requests of commands come to.
use Rattle.std.proofs.Common.{◌≡◌, ◌∙◌, List, Option, Some, inl, inr, refl, sym, ap, subst, codes}
use Rattle.clap.specs.Words.{Row, Text, Kinds, all_of, fault_of, first_of, subcommand_of}
use Rattle.clap.specs.Kinds.{or_else}
use Rattle.command_line.specs.Asked.{HasMistake, HasNoHashes, HasNoRepeats, HasNoShape, HasNoWorkload, HasWish, AreWordsRefused, NameCommand}
use Rattle.command_line.specs.Asked.{word_faults, help_words, topic_faults}
use Rattle.command_line.specs.Command.{hamilton}
use Rattle.requests.specs.declared.WordsFault.{WordsFault}
use Rattle.requests.specs.declared.WordsFault.TheVariants.{Bad, Memory}

topic : (words : List Text) (rows : List Row) → NameCommand words (codes "help") rows
    → fault_of hamilton (help_words (first_of (codes "command") rows)) ≡ word_faults words
topic words rows m =
    sym (ap (λ (k : Kinds). or_else k (topic_faults (subcommand_of hamilton words))) m.sound
    ∙ ap (λ (found : Option (Text × List Row)). topic_faults found) m.met)

pub topic_wish : (words : List Text) (rows : List Row) → NameCommand words (codes "help") rows
    → HasWish (fault_of hamilton (help_words (first_of (codes "command") rows))) → HasWish (word_faults words)
topic_wish words rows m wish = subst (λ (k : Kinds). HasWish k) (topic words rows m) wish

pub topic_mistake : (words : List Text) (rows : List Row) → NameCommand words (codes "help") rows
    → HasMistake (fault_of hamilton (help_words (first_of (codes "command") rows))) → HasMistake (word_faults words)
topic_mistake words rows m mistake = subst (λ (k : Kinds). HasMistake k) (topic words rows m) mistake

pub refused_shape : (words : List Text) (rows : List Row) (e : WordsFault) → NameCommand words (codes "init") rows → (e ≡ Bad → HasNoShape rows)
    → AreWordsRefused words e
refused_shape words rows Bad m none = inr (inl (rows, m, none refl))
refused_shape words rows Memory m none = tt

pub refused_hashes : (words given : List Text) (rows : List Row) (e : WordsFault) → NameCommand words (codes "status") rows
    → all_of (codes "hash") rows ≡ Some given
    → (e ≡ Bad → HasNoHashes given) → AreWordsRefused words e
refused_hashes words given rows Bad m all none = inr (inr (inl (rows, given, m, all, none refl)))
refused_hashes words given rows Memory m all none = tt

pub refused_workload : (words : List Text) (rows : List Row) (e : WordsFault) → NameCommand words (codes "gen") rows → (e ≡ Bad → HasNoWorkload rows)
    → AreWordsRefused words e
refused_workload words rows Bad m none = inr (inr (inr (inl (rows, m, none refl))))
refused_workload words rows Memory m none = tt

pub refused_repeats : (words : List Text) (rows : List Row) (e : WordsFault) → NameCommand words (codes "run") rows → (e ≡ Bad → HasNoRepeats rows)
    → AreWordsRefused words e
refused_repeats words rows Bad m none = inr (inr (inr (inr (rows, m, none refl))))
refused_repeats words rows Memory m none = tt
