-- How the words of the copies that a side waits for are loaded: in order, through copies that come
-- to be awaited then; this project's own.
use Rattle.std.specs.Prelude.{◌≡◌, ◌≢◌, ℕ, zero, suc, ◌+◌, ◌-◌, ◌<◌, ◌≤◌, false, []}
use Rattle.std.specs.Prelude.{Option, Some, None, ◌⊎◌}
use Rattle.side_model.specs.declared.fault.ProxyFault.{ProxyFault}
use Rattle.pair_runs.specs.Sides.{SideState, all_loaded, words_left}
use Rattle.pair_runs.specs.Working.{Works, WorksInPart}

-- a copy is handed back, and that meets a fault
pub record LoadFails (a b : SideState) (stop : Option ProxyFault) : Type 0 where
  pub fault : ProxyFault
  pub stops : stop ≡ Some fault
  pub part : WorksInPart false None fault a b

-- all copies that are awaited are loaded whole, and then others
pub record LoadGoes (a : SideState) (More : SideState → Type 0) : Type 0 where
  pub mid : SideState
  pub works : Works false (all_loaded a) mid
  pub more : More mid

-- ---- so many words

-- none is awaited and some words are over, or the last words are loaded
abbrev pub LoadsLast : ℕ → SideState → SideState → ℕ → Type 0
LoadsLast words a b over =
    ((a.copies ≡ []) × (b ≡ a) × (over ≡ words))
    ⊎ ((words < words_left a) × (b ≡ record a { loaded = a.loaded + words }) × (over ≡ 0))

-- so many times all that is awaited is loaded whole, and then the last words; some may be over
abbrev pub LoadsIn : ℕ → ℕ → SideState → SideState → ℕ → Option ProxyFault → Type 0
LoadsIn zero words a b over stop = (stop ≡ None) × LoadsLast words a b over
LoadsIn (suc count) words a b over stop =
    (0 < words) × (a.copies ≢ [])
    × (LoadFails a b stop
    ⊎ ((words_left a ≤ words)
    × LoadGoes a (λ mid. LoadsIn count (words - words_left a) mid b over stop)))

pub record Loads (words : ℕ) (a b : SideState) (over : ℕ) (stop : Option ProxyFault)
    : Type 0 where
  pub count : ℕ
  pub row : LoadsIn count words a b over stop

-- ---- all words

abbrev pub LoadsAllIn : ℕ → SideState → SideState → Option ProxyFault → Type 0
LoadsAllIn zero a b stop = (a.copies ≡ []) × (b ≡ a) × (stop ≡ None)
LoadsAllIn (suc count) a b stop =
    (a.copies ≢ [])
    × (LoadFails a b stop ⊎ LoadGoes a (λ mid. LoadsAllIn count mid b stop))

pub record LoadsAll (a b : SideState) (stop : Option ProxyFault) : Type 0 where
  pub count : ℕ
  pub row : LoadsAllIn count a b stop
