-- What it comes to that a side is fed one item of its peer's wire; this project's own.
use Rattle.std.specs.Prelude.{◌≡◌, ◌≢◌, ◌<◌, ℕ, true, false, List, [], ◌∷◌}
use Rattle.std.specs.Prelude.{Option, Some, None, Result, Ok, Err}
use Rattle.half_model.specs.declared.items.PeerIn.{PeerIn}
use Rattle.pair_runs.specs.Sides.{SideState, fed, wants}
use Rattle.pair_runs.specs.Taking.{Taker, Cut, cut_item, TakesNone}
use Rattle.pair_runs.specs.Working.{Works, WorksInPart}
use Rattle.side_model.specs.declared.fault.ProxyFault.{ProxyFault}
use Rattle.side_model.specs.declared.fault.ProxyFault.TheVariants.{Memory}

-- a side that was fed works, or meets a fault
abbrev pub Feeds : PeerIn → Result Unit ProxyFault → SideState → SideState → Type 0
Feeds item (Ok done) a b = Works false (fed item a) b
Feeds item (Err fault) a b = fault ≢ Memory → WorksInPart false (Some item) fault (fed item a) b

-- an item leaves the wire, and this holds of it
pub record TakesOne (most : ℕ) (a b : Taker) (Behind : Cut → Type 0) : Type 0 where
  pub some : 0 < most
  pub wants : wants a.side ≡ true
  pub item : PeerIn
  pub rest : List PeerIn
  pub front : a.wire ≡ item ∷ rest
  pub wire : b.wire ≡ (cut_item most item rest).rest
  pub behind : Behind (cut_item most item rest)

-- none leaves it
pub record TakesNothing (most : ℕ) (a b : Taker) : Type 0 where
  pub none : TakesNone most a
  pub same : b ≡ a

abbrev pub TakesNext : ℕ → Taker → Taker → Result (Option ℕ) ProxyFault → Type 0
TakesNext most a b (Ok None) = TakesNothing most a b
TakesNext most a b (Ok (Some cost)) =
    TakesOne most a b (λ it. (cost ≡ it.cost) × Works false (fed it.item a.side) b.side)
TakesNext most a b (Err fault) =
    fault ≢ Memory
    → TakesOne most a b (λ it. WorksInPart false (Some it.item) fault (fed it.item a.side) b.side)

-- an item may be taken
pub record TookSome (most : ℕ) (a : Taker) : Type 0 where
  pub some : 0 < most
  pub wants : wants a.side ≡ true
  pub front : a.wire ≢ []
