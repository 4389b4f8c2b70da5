-- How the getters read the rows of matches, and what an error says of the faults.
use Rattle.std.proofs.Common.{rules, ◌≡◌, List, [], ◌∷◌, inl, inr, refl, subst}
use Rattle.std.specs.Prelude.{IsTrue, Result, Ok, Err, IsOk, IfOk, IfErr}
use Rattle.clap.proofs.WalkLemmas.{first_value-rows, raw_values-rows}
use Rattle.clap.specs.Words.{Text, Kinds, HasKind, kind_of}
use Rattle.clap.specs.Kinds.{or_else}
use Rattle.clap.specs.declared.error.Error.{Error}
use Rattle.clap.specs.declared.error.kind.ErrorKind.TheVariants.{OutOfMemory}
use Rattle.command_line.specs.Asked.{is_mistake, is_wish, HasMistake, HasWish, WordsAskFor, AreWordsRefused, IsShow, word_faults}
use Rattle.requests.specs.declared.Request.{Request}
use Rattle.requests.specs.declared.Request.TheVariants.{Init, Run, Recover, Status, Audit, Gen, Show}
use Rattle.requests.specs.declared.WordsFault.{WordsFault}
use Rattle.requests.specs.declared.WordsFault.TheVariants.{Bad, Memory}

pub ruleset rows = (first_value-rows, raw_values-rows)

-- an error that asks for a text comes only where the faults have such a wish
pub wish_of : (kinds : Kinds) (e : Error) → HasKind kinds e → IsTrue (is_wish (kind_of e)) → HasWish kinds
wish_of kinds e (inl memory) is = let none : IsTrue (is_wish OutOfMemory) = subst (λ k. IsTrue (is_wish k)) memory is in absurd (search (rules, none))
wish_of kinds e (inr among) is = (kind_of e, among, is)

-- an error that is a mistake comes only where the faults have one
pub mistake_of : (kinds : Kinds) (e : Error) → HasKind kinds e → IsTrue (is_mistake (kind_of e)) → HasMistake kinds
mistake_of kinds e (inl memory) is = let none : IsTrue (is_mistake OutOfMemory) = subst (λ k. IsTrue (is_mistake k)) memory is in
    absurd (search (rules, none))
mistake_of kinds e (inr among) is = (kind_of e, among, is)

-- what the first of two steps has
pub first_wish : (a b : Kinds) → HasWish a → HasWish (or_else a b)
first_wish [] b (k, among, is) = absurd among
first_wish (x ∷ xs) b has = has

pub first_mistake : (a b : Kinds) → HasMistake a → HasMistake (or_else a b)
first_mistake [] b (k, among, is) = absurd among
first_mistake (x ∷ xs) b has = has

-- an answer that is a text was asked for by a wish
pub asked_by_wish : (words : List Text) (r : Result Request WordsFault) → IfOk r IsShow → (IsOk r → HasWish (word_faults words))
    → IfOk r (λ q. WordsAskFor words q)
asked_by_wish words (Ok (Show text)) shows wish = wish (search rules)
asked_by_wish words (Ok (Init shape mint)) shows wish = absurd shows
asked_by_wish words (Ok (Run verdicts clients options)) shows wish = absurd shows
asked_by_wish words (Ok Recover) shows wish = absurd shows
asked_by_wish words (Ok (Audit mint clients)) shows wish = absurd shows
asked_by_wish words (Ok (Status hashes)) shows wish = absurd shows
asked_by_wish words (Ok (Gen shape seed count options)) shows wish = absurd shows
asked_by_wish words (Err e) shows wish = tt

-- bad words are refused by a mistake
pub refused_by_mistake : (words : List Text) (r : Result Request WordsFault) → (r ≡ Err Bad → HasMistake (word_faults words))
    → IfErr r (λ e. AreWordsRefused words e)
refused_by_mistake words (Ok q) mistake = tt
refused_by_mistake words (Err Bad) mistake = inl (mistake refl)
refused_by_mistake words (Err Memory) mistake = tt
