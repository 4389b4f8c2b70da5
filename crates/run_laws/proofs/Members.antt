-- The compact forms of what is submitted are within the limits.
use Rattle.std.proofs.Common.{◌≡◌, ℕ, suc, ◌≤◌, List, [], ◌∷◌, ◌++◌, length, map, refl, ap, arith}
use Rattle.std.specs.List.{AllByRecursion}
use Rattle.std.proofs.lemmas.List.{length-map}
use Rattle.std.proofs.lemmas.List.Elements.{All-from_recursion}
use Rattle.sha2.proofs.Facts256.{length-sha256}
use Rattle.byte_spelling.specs.Spelling.{input, output, counted}
use Rattle.cbdc_model.specs.Records.{Digest}
use Rattle.cbdc_model.specs.Coins.{Input, Output, Coin, coin_hash, id_of, tx_id, made_coins, tx_coins}
use Rattle.cbdc_model.specs.Grammar.{IsHash, IsHashList}
use Rattle.run_laws.specs.Members.{CompactLaw, MemberLaw}
use Rattle.run_laws.proofs.Proper.{sound_law}

coin_is_hash : (c : Coin) → IsHash (coin_hash c)
unfolding coin_hash
coin_is_hash c = length-sha256 (input c)

id_is_hash : (inputs : List Input) (outputs : List Output) → IsHash (id_of inputs outputs)
unfolding id_of
id_is_hash inputs outputs = length-sha256 (counted input inputs ++ counted output outputs)

hashes : (cs : List Coin) → AllByRecursion IsHash (map coin_hash cs)
hashes [] = tt
hashes (c ∷ cs) = (coin_is_hash c, hashes cs)

made_length : (id : Digest) (k : ℕ) (os : List Output) → length (made_coins id k os) ≡ length os
made_length id k [] = refl
made_length id k (o ∷ os) = ap (λ n. suc n) (made_length id (suc k) os)

hash_list : (cs : List Coin) → length cs ≤ 255 → IsHashList (map coin_hash cs)
hash_list cs few = (omega (arith, few, length-map cs coin_hash), All-from_recursion IsHash (map coin_hash cs) (hashes cs))

pub compact_law : CompactLaw
compact_law t inputs outputs = record {
  id = id_is_hash t.inputs t.outputs;
  inputs = hash_list t.inputs inputs;
  outputs = hash_list (tx_coins t) (omega (arith, outputs, made_length (tx_id t) 0 t.outputs));
}

pub member_law : MemberLaw
member_law submissions t verdicts contains sound = (t, contains, sound_law t verdicts sound, refl)
