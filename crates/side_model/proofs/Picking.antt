-- What is picked to be sent next, read off from the connection.
use Rattle.std.proofs.Common.{◌≡◌, ℕ, ◌<◌, ◌≤◌, List, [], ◌∷◌, Option, Some, None, Bool, true, false, nat_lt, length, refl, arith, if◌then◌else◌}
use Rattle.std.proofs.lemmas.Bool.{ltb-false}
use Rattle.pair_model.specs.Steps.{Here, Pick, Nothing, Tell, Send, send_next, pick_after, pick_behind, picks}

-- an ACK is picked
pub record TellsNext (accepted : ℕ) (here : Here) (count : ℕ) : Type 0 where
  pub empty : here.front ≡ []
  pub p : ℕ
  pub answered : here.answer ≡ Some p
  pub count_is : count ≡ accepted

-- the bytes of the next frame are picked
pub record SendsNext (accepted : ℕ) (next : Option (List ℕ)) (here : Here) (bytes : List ℕ) : Type 0 where
  pub empty : here.front ≡ []
  pub p : ℕ
  pub answered : here.answer ≡ Some p
  pub bytes_are : next ≡ Some bytes
  pub all_told : accepted ≤ here.told

pub tells_next : (accepted : ℕ) (next : Option (List ℕ)) (here : Here) (count : ℕ) → picks accepted next here ≡ Tell count → TellsNext accepted here count
tells_next accepted next here count h = by_front here.front refl h
  where
    by_next : (bytes : Option (List ℕ)) → send_next bytes ≡ Tell count → ⊥
    by_next None d = cc
    by_next (Some bytes) d = cc

    by_test : (p : ℕ) → here.front ≡ [] → here.answer ≡ Some p → (b : Bool) → (if b then Tell accepted else send_next next) ≡ Tell count → TellsNext accepted here count
    by_test p e a true d = record { empty = e; p = p; answered = a; count_is = cc }
    by_test p e a false d = absurd (by_next next d)

    by_answer : here.front ≡ [] → (answer : Option ℕ) → here.answer ≡ answer → pick_after answer here.told accepted next ≡ Tell count → TellsNext accepted here count
    by_answer e None a d = absurd cc
    by_answer e (Some p) a d = by_test p e a (nat_lt here.told accepted) d

    by_front : (front : List ℕ) → here.front ≡ front → pick_behind front (pick_after here.answer here.told accepted next) ≡ Tell count → TellsNext accepted here count
    by_front [] e d = by_answer e here.answer refl d
    by_front (byte ∷ front) e d = absurd cc

pub sends_next : (accepted : ℕ) (next : Option (List ℕ)) (here : Here) (bytes : List ℕ) → picks accepted next here ≡ Send bytes → SendsNext accepted next here bytes
sends_next accepted next here bytes h = by_front here.front refl h
  where
    by_next : (found : Option (List ℕ)) → send_next found ≡ Send bytes → found ≡ Some bytes
    by_next None d = absurd cc
    by_next (Some found) d = cc

    by_test : (p : ℕ) → here.front ≡ [] → here.answer ≡ Some p → (b : Bool) → nat_lt here.told accepted ≡ b → (if b then Tell accepted else send_next next) ≡ Send bytes → SendsNext accepted next here bytes
    by_test p e a true t d = absurd cc
    by_test p e a false t d = record { empty = e; p = p; answered = a; bytes_are = by_next next d; all_told = ltb-false here.told accepted t }

    by_answer : here.front ≡ [] → (answer : Option ℕ) → here.answer ≡ answer → pick_after answer here.told accepted next ≡ Send bytes → SendsNext accepted next here bytes
    by_answer e None a d = absurd cc
    by_answer e (Some p) a d = by_test p e a (nat_lt here.told accepted) refl d

    by_front : (front : List ℕ) → here.front ≡ front → pick_behind front (pick_after here.answer here.told accepted next) ≡ Send bytes → SendsNext accepted next here bytes
    by_front [] e d = by_answer e here.answer refl d
    by_front (byte ∷ front) e d = absurd cc

-- nothing is picked while a front is being sent
pub behind_some : (front : List ℕ) (pick : Pick) → 0 < length front → pick_behind front pick ≡ Nothing
behind_some [] pick l = absurd (omega arith)
behind_some (byte ∷ front) pick l = refl
