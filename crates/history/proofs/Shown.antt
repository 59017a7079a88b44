-- The small example.
use Rattle.std.proofs.Common.{◌≡◌, ℕ, zero, suc, List, [], ◌∷◌, map, get_or, sym, refl, subst, arith}
use Rattle.model.specs.Commits.{numbered}
use Rattle.model.specs.Transactions.{puts, after, found_from, empty}
use Rattle.model.specs.Versions.{versions_from, swept, keys_of}
use Rattle.versions.specs.Chain.{sum_to, total}
use Rattle.order.specs.Order.{line, lined, AllSerial}
use Rattle.history.specs.Engine.{Life, txn_of, run, led}
use Rattle.history.specs.Sound.{nobody}
use Rattle.history.specs.Promise.{GivenOneByOne}
use Rattle.history.specs.Examples.{Examples, passing, writer, reader}

both : (led passing).done ≡ writer ∷ reader ∷ []
unfolding run numbered puts after found_from versions_from swept keys_of sum_to total
both = refl

serials : AllSerial (map txn_of (writer ∷ reader ∷ []))
serials zero l = refl
serials (suc zero) l = refl
serials (suc (suc n)) l = absurd (omega arith)

stands : line (map txn_of (writer ∷ reader ∷ [])) ≡ 1 ∷ 0 ∷ []
unfolding lined
stands = refl

numbers : GivenOneByOne empty (writer ∷ reader ∷ []) → ⊥
unfolding puts found_from
numbers h = let a = h.1.0 in let z : ◌≡◌ {A = ℕ} 0 1 = cc in omega arith

pub examples : Examples
examples = record {
  both = both;
  serials = subst (λ (ls : List Life). AllSerial (map txn_of ls)) (sym both) serials;
  stands = subst (λ (ls : List Life). line (map txn_of ls) ≡ 1 ∷ 0 ∷ []) (sym both) stands;
  numbers = subst (λ (ls : List Life). GivenOneByOne empty (map (λ (n : ℕ). get_or ls n nobody) (0 ∷ 1 ∷ [])) → ⊥) (sym both) numbers;
}
