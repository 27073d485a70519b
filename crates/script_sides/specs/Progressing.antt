-- How far words are loaded by one step of it; this project's own.
use Rattle.std.specs.Prelude.{◌≡◌, ◌≢◌, ◌+◌, ◌-◌, ◌<◌, ◌≤◌, ℕ, Bool, true, false, []}
use Rattle.std.specs.Prelude.{Option, Some, None, Result, Ok, Err}
use Rattle.pair_runs.specs.Loading.{Loads}
use Rattle.pair_runs.specs.Sides.{SideState, all_loaded, words_left}
use Rattle.pair_runs.specs.Working.{Works, WorksInPart}
use Rattle.script_sides.specs.declared.progress.Progress.{Progress}
use Rattle.script_sides.specs.declared.progress.Progress.TheVariants.{Nothing, Part, Whole}
use Rattle.script_sides.specs.Halves.{HalfState}
use Rattle.script_sides.specs.Ready.{IsReady}
use Rattle.script_sides.specs.Sided.{SideRun, state_of, is_up}
use Rattle.side_model.specs.declared.fault.ProxyFault.{ProxyFault}
use Rattle.side_model.specs.declared.fault.ProxyFault.TheVariants.{Memory}

-- some words are loaded, and others are left
pub record LoadsPart (most count : ℕ) (a b : SideState) : Type 0 where
  pub some : 0 < count
  pub few : count ≤ most
  pub left : count < words_left a
  pub is : b ≡ record a { loaded = a.loaded + count }

-- all words that were left are loaded
pub record LoadsWhole (most count : ℕ) (a b : SideState) : Type 0 where
  pub awaits : a.copies ≢ []
  pub few : count ≤ most
  pub all : count ≡ words_left a
  pub some : 0 < count
  pub works : Works false (all_loaded a) b

pub record LoadsNothing (a b : SideState) : Type 0 where
  pub awaits : a.copies ≡ []
  pub same : b ≡ a

pub record LoadsRest (a b : SideState) : Type 0 where
  pub awaits : a.copies ≢ []
  pub works : Works false (all_loaded a) b

-- what one step of loading at most so many words comes to
abbrev pub Loaded : ℕ → SideState → SideState → Progress → Type 0
Loaded most a b Nothing = LoadsNothing a b
Loaded most a b (Part count) = LoadsPart most count a b
Loaded most a b (Whole count) = LoadsWhole most count a b

-- ---- one copy

-- a side with the copy that is taken out of it
abbrev pub with_half : HalfState → SideRun → SideRun
with_half half it = record it { half = Some half }

-- a copy is taken out of a side, to be loaded, where one is awaited
pub record BeginsCopy (half : HalfState) (old new : SideRun) : Type 0 where
  pub ready : IsReady (with_half half new)
  pub none : new.half ≡ None
  pub same : state_of (with_half half new) ≡ state_of old
  pub peer : new.peer ≡ old.peer
  pub up : is_up new ≡ is_up old

pub record BeginsNone (old new : SideRun) : Type 0 where
  pub ready : IsReady new
  pub nothing : LoadsNothing (state_of old) (state_of new)
  pub peer : new.peer ≡ old.peer
  pub up : is_up new ≡ is_up old

abbrev pub Begins : Option HalfState → SideRun → SideRun → Type 0
Begins None old new = BeginsNone old new
Begins (Some half) old new = BeginsCopy half old new

-- a copy as it was before so many of its words were loaded, and the side with it
abbrev pub unloaded : ℕ → HalfState → HalfState
unloaded count half = record half { loaded = half.loaded - count }

abbrev pub before : ℕ → HalfState → SideRun → SideRun
before count half it = with_half (unloaded count half) it

-- so many words of it were the last ones
pub record IsLast (count : ℕ) (half : HalfState) (it : SideRun) : Type 0 where
  pub ready : IsReady (before count half it)
  pub none : it.half ≡ None
  pub some : 0 < count
  pub few : count ≤ half.loaded
  pub whole : half.loaded ≡ half.count

-- a copy that is handed back meets a fault
pub record LoadStops (fault : ProxyFault) (a b : SideState) : Type 0 where
  pub awaits : a.copies ≢ []
  pub part : WorksInPart false None fault a b

abbrev pub LoadedBy : ℕ → SideState → SideState → Result Progress ProxyFault → Type 0
LoadedBy most a b (Ok progress) = Loaded most a b progress
LoadedBy most a b (Err fault) = fault ≢ Memory → LoadStops fault a b

-- all words of the copies of the message that is owed are loaded, if one is owed
abbrev pub LoadsMessage : SideState → SideState → Result Bool ProxyFault → Type 0
LoadsMessage a b (Ok false) = LoadsNothing a b
LoadsMessage a b (Ok true) = LoadsRest a b
LoadsMessage a b (Err fault) = fault ≢ Memory → LoadStops fault a b

-- so many words are over
abbrev pub LoadsBy : ℕ → SideState → SideState → Result ℕ ProxyFault → Type 0
LoadsBy words a b (Ok over) = Loads words a b over None
LoadsBy words a b (Err fault) = fault ≢ Memory → Loads words a b 0 (Some fault)
