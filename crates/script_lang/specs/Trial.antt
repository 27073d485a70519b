-- The text of a trial's script, of which all numbers are drawn from one: by Knuth's linear
-- congruential generator for MMIX, whose upper 31 bits are used. The script is this project's own.
use Rattle.std.specs.Prelude.{◌≡◌, ◌≤◌, ℕ, zero, suc, ◌+◌, ◌*◌, ◌/◌, ◌%◌, ◌^◌, ◌==◌, List, []}
use Rattle.std.specs.Prelude.{◌++◌, if◌then◌else◌, codes, decimal, Ok}
use Rattle.script_lang.specs.Grammar.{steps_of}
use Rattle.script_lang.specs.declared.steps.Step.{Step}

-- the state behind a draw
unfoldable pub next_state : ℕ → ℕ
next_state state = (state * 6364136223846793005 + 1442695040888963407) % 2 ^ 64

-- the number below a bound that a state gives
unfoldable pub drawn : ℕ → ℕ → ℕ
drawn bound state = state / 2 ^ 33 % bound

-- the state behind so many draws
abbrev pub state_after : ℕ → ℕ → ℕ
state_after zero state = state
state_after (suc draws) state = next_state (state_after draws state)

-- of the draws behind a state, the one of this number, counted from 1
abbrev pub draw : ℕ → ℕ → ℕ → ℕ
draw number bound state = drawn bound (state_after number state)

-- a file and a surface to draw on
unfoldable pub opening : List ℕ
opening =
    codes "app file 1 65536\n"
    ++ (codes "app wl_display@1.get_registry(new @2)\n"
    ++ (codes "app wl_registry@2.bind(1, \"wl_compositor\" 6 new @3)\n"
    ++ (codes "app wl_registry@2.bind(2, \"wl_shm\" 1 new @4)\n"
    ++ (codes "app wl_compositor@3.create_surface(new @5)\n"
    ++ (codes "app wl_shm@4.create_pool(new @6, fd %1, 65536)\n"
    ++ (codes "app wl_shm_pool@6.create_buffer(new @7, 0, 128, 128, 512, 0)\n"
    ++ codes "app wl_surface@5.attach(@7, 0, 0)\n"))))))

-- what moves behind a commit, by a number below 4
unfoldable pub moves : ℕ → List ℕ
moves number =
    if number == 0 then codes "connect\ntake app 40\nup 100\nbreak\n"
    else if number == 1 then codes "connect\ntake app 100\nup 64\ndown 64\n"
    else if number == 2 then codes "settle\n"
    else []

-- words are written
unfoldable pub fill_text : ℕ → ℕ → ℕ → List ℕ
fill_text first count value =
    codes "app fill 1 " ++ (decimal first ++ (codes " " ++ (decimal count
    ++ (codes " " ++ (decimal value ++ codes "\n")))))

-- a rectangle is damaged, and the surface is committed
unfoldable pub damage_text : ℕ → ℕ → ℕ → ℕ → List ℕ
damage_text x y width height =
    codes "app wl_surface@5.damage_buffer(" ++ (decimal x ++ (codes ", " ++ (decimal y
    ++ (codes ", " ++ (decimal width ++ (codes ", " ++ (decimal height
    ++ codes ")\napp wl_surface@5.commit()\n")))))))

-- the same by draws behind a state, three and four
abbrev pub drawn_fill : ℕ → List ℕ
drawn_fill state = fill_text (draw 1 8184 state) (1 + draw 2 8 state) (draw 3 256 state)

abbrev pub drawn_damage : ℕ → List ℕ
drawn_damage state =
    damage_text (draw 1 128 state) (draw 2 128 state) (1 + draw 3 32 state) (1 + draw 4 32 state)

-- both, and what moves then, by eight draws behind a state
abbrev pub round : ℕ → List ℕ
round state =
    drawn_fill state
    ++ (drawn_damage (state_after 3 state) ++ moves (draw 1 4 (state_after 7 state)))

-- so many rounds, the first behind this state
abbrev pub rounds : ℕ → ℕ → List ℕ
rounds zero state = []
rounds (suc count) state = round state ++ rounds count (state_after 8 state)

-- the text of so many rounds, of which all is drawn from their count
unfoldable pub trial_text : ℕ → List ℕ
trial_text count = opening ++ rounds count count

-- the text of each trial is a script
abbrev pub TrialIsScript : Type 0
TrialIsScript =
    (count : ℕ) → 1 ≤ count → count ≤ 500
    → (steps : List Step) × (steps_of (trial_text count) ≡ Ok steps)
