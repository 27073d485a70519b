-- How the lines of a script lead on to those behind them, and to the end of the replay.
use Rattle.std.proofs.Math.Seq.{drop-cons}
use Rattle.std.proofs.Common.{◌≡◌, ℕ, suc, ◌+◌, ◌<◌, Bool, true, false, List, [], ◌∷◌, ◌++◌, drop, get_or, add-one, length, Option, Some, None, Result, Ok, Err, refl, sym, ap, subst, ◌∙◌, arith, inl, inr}
use Rattle.std.proofs.lemmas.List.{append-nil}
use Rattle.std.specs.Prelude.{IfOk}
use Rattle.std.specs.declared.alloc.AllocError.{AllocError}
use Rattle.wp_outside.specs.declared.kinds.Side.TheVariants.{Near, Far}
use Rattle.wp_outside.specs.Lines as outside
use Rattle.half_model.specs.declared.items.PeerIn.TheVariants as items
use Rattle.proxy_trail.specs.declared.pair.PairEnd.{PairEnd}
use Rattle.proxy_trail.specs.declared.pair.PairEnd.TheVariants as ends
use Rattle.script_lang.specs.Puts.{is_stop, put_by}
use Rattle.script_lang.specs.declared.steps.Step.{Step}
use Rattle.pair_runs.specs.Runs.{Played, Does, AreLines, Plays, PlaysLine, Settles, size_after, MOST, End, Drained, Stopped, Fails, end_by}
use Rattle.pair_runs.specs.States.{State, Fault}
use Rattle.script_replay.specs.Going.{IfStops, GoesBy, fault_in}
use Rattle.script_replay.specs.Playing.{DoesLine, PlayedTo, LeadsOn, EndsBy, PlaysTo}
use Rattle.script_replay.specs.Standing.{IsReady, state_of}
use Rattle.script_replay.specs.declared.failures.Failure.{Failure}
use Rattle.script_replay.specs.declared.failures.Stop.{Stop}
use Rattle.script_replay.specs.declared.failures.Stop.TheVariants as stops
use Rattle.script_replay.specs.declared.run.Run.{Run}

-- ---- one line in front of others

-- the line is done, and what is played behind it is played behind it
goes_first : (it : Step) (others : List Step) (most : ℕ) (now next t : State) (end : End) → is_stop it.what ≡ false → DoesLine it.what now next None → PlayedTo others (size_after most it.what) next t end → PlayedTo (it ∷ others) most now t end
goes_first it others most now next t end going d h =
    let first : Played = record { what = it.what; puts = d.puts } in
    record {
      played = first ∷ h.played;
      lines = (refl, d.bytes, h.lines);
      plays = subst (λ (b : Bool). PlaysLine b first (λ between. Plays h.played (size_after most it.what) between t end) now t end) (sym going) (inr (next, d.does, h.plays));
    }

-- ---- lines behind the end

-- lines that are not done, with the bytes that they would put
abbrev rest_of : List Step → List Played
rest_of [] = []
rest_of (it ∷ steps) = record { what = it.what; puts = items.Bytes (put_by Near it.what ++ put_by Far it.what) ∷ [] } ∷ rest_of steps

rest_lines : (steps : List Step) → AreLines steps (rest_of steps)
rest_lines [] = tt
rest_lines (it ∷ steps) = (refl, append-nil (put_by Near it.what ++ put_by Far it.what), rest_lines steps)

stops_first : (it : Step) (others : List Step) (most : ℕ) (now : State) → is_stop it.what ≡ true → PlayedTo (it ∷ others) most now now Stopped
stops_first it others most now stop = record {
  played = rest_of (it ∷ others);
  lines = rest_lines (it ∷ others);
  plays = subst (λ (b : Bool). PlaysLine b (record { what = it.what; puts = items.Bytes (put_by Near it.what ++ put_by Far it.what) ∷ [] }) (λ between. Plays (rest_of others) (size_after most it.what) between now Stopped) now now Stopped) (sym stop) (refl, refl);
}

fails_first : (it : Step) (others : List Step) (most : ℕ) (now next : State) (fault : Fault) → is_stop it.what ≡ false → DoesLine it.what now next (Some fault) → PlayedTo (it ∷ others) most now next (Fails fault)
fails_first it others most now next fault going d =
    let first : Played = record { what = it.what; puts = d.puts } in
    record {
      played = first ∷ rest_of others;
      lines = (refl, d.bytes, rest_lines others);
      plays = subst (λ (b : Bool). PlaysLine b first (λ between. Plays (rest_of others) (size_after most it.what) between next (Fails fault)) now next (Fails fault)) (sym going) (inl (fault, d.does, refl));
    }

settles_last : (most : ℕ) (now t : State) (stop : Option Fault) → Settles most now t stop → PlayedTo [] most now t (end_by stop)
settles_last most now t stop h = record { played = []; lines = tt; plays = (stop, h, refl) }

-- ---- the lines so far

pub leads_first : (steps left : List Step) (s : State) → left ≡ steps → LeadsOn steps left MOST s s
leads_first steps left s same = λ t end h. subst (λ (rows : List Step). PlayedTo rows MOST s t end) same h

pub leads_more : (steps left others : List Step) (it : Step) (most size : ℕ) (s : State) (old new : Run) (before after : ℕ → outside.Line) → left ≡ it ∷ others → is_stop it.what ≡ false → size ≡ size_after most it.what → LeadsOn steps left most s (state_of old before)
    → IsReady old before → GoesBy (DoesLine it.what) old new before after None → LeadsOn steps others size s (state_of new after)
leads_more steps left others it most size s old new before after is going sized leads ready goes = λ t end h.
    leads t end (subst (λ (rows : List Step). PlayedTo rows most (state_of old before) t end) (sym is)
    (goes_first it others most (state_of old before) (state_of new after) t end going (goes ready).did (subst (λ (n : ℕ). PlayedTo others n (state_of new after) t end) sized h)))

pub ready_more : (it : Step) (old new : Run) (before after : ℕ → outside.Line) → IsReady old before → GoesBy (DoesLine it.what) old new before after None → IsReady new after
ready_more it old new before after ready goes = (goes ready).stays

-- ---- the ends

pub plays_stop : (steps left others : List Step) (it : Step) (most : ℕ) (first now : Run) (before after : ℕ → outside.Line) → left ≡ it ∷ others → is_stop it.what ≡ true → LeadsOn steps left most (state_of first before) (state_of now after) → IsReady now after
    → PlaysTo steps first now before after ends.Stopped
plays_stop steps left others it most first now before after is stop leads ready = record {
  end = Stopped;
  end_is = refl;
  plays = leads (state_of now after) Stopped (subst (λ (rows : List Step). PlayedTo rows most (state_of now after) (state_of now after) Stopped) (sym is) (stops_first it others most (state_of now after) stop));
  stays = ready;
}

plays_fault : (steps left others : List Step) (it : Step) (most : ℕ) (first old new : Run) (before between after : ℕ → outside.Line) (failure : Failure) (ended : PairEnd) → left ≡ it ∷ others → is_stop it.what ≡ false → LeadsOn steps left most (state_of first before) (state_of old between) → IsReady old between
    → GoesBy (DoesLine it.what) old new between after (Some (fault_in failure)) → ended ≡ ends.Fault failure.side failure.fault → PlaysTo steps first new before after ended
plays_fault steps left others it most first old new before between after failure ended is going leads ready goes told = record {
  end = Fails (fault_in failure);
  end_is = told;
  plays = leads (state_of new after) (Fails (fault_in failure)) (subst (λ (rows : List Step). PlayedTo rows most (state_of old between) (state_of new after) (Fails (fault_in failure))) (sym is)
      (fails_first it others most (state_of old between) (state_of new after) (fault_in failure) going (goes ready).did));
  stays = (goes ready).stays;
}

-- the rounds at the end
pub plays_end : (steps left : List Step) (most : ℕ) (first old new : Run) (before between after : ℕ → outside.Line) → left ≡ [] → LeadsOn steps left most (state_of first before) (state_of old between) → IsReady old between → GoesBy (Settles most) old new between after None
    → PlaysTo steps first new before after ends.Drained
plays_end steps left most first old new before between after none leads ready goes = record {
  end = Drained;
  end_is = refl;
  plays = leads (state_of new after) Drained (subst (λ (rows : List Step). PlayedTo rows most (state_of old between) (state_of new after) Drained) (sym none) (settles_last most (state_of old between) (state_of new after) None (goes ready).did));
  stays = (goes ready).stays;
}

plays_end_fault : (steps left : List Step) (most : ℕ) (first old new : Run) (before between after : ℕ → outside.Line) (failure : Failure) (ended : PairEnd) → left ≡ [] → LeadsOn steps left most (state_of first before) (state_of old between) → IsReady old between
    → GoesBy (Settles most) old new between after (Some (fault_in failure)) → ended ≡ ends.Fault failure.side failure.fault → PlaysTo steps first new before after ended
plays_end_fault steps left most first old new before between after failure ended none leads ready goes told = record {
  end = Fails (fault_in failure);
  end_is = told;
  plays = leads (state_of new after) (Fails (fault_in failure)) (subst (λ (rows : List Step). PlayedTo rows most (state_of old between) (state_of new after) (Fails (fault_in failure))) (sym none)
      (settles_last most (state_of old between) (state_of new after) (Some (fault_in failure)) (goes ready).did));
  stays = (goes ready).stays;
}

-- ---- where a call stops

pub line_stops : (steps left others : List Step) (it : Step) (most : ℕ) (first old new : Run) (before between after : ℕ → outside.Line) (stop : Stop) (result : Result PairEnd AllocError) → left ≡ it ∷ others → is_stop it.what ≡ false → LeadsOn steps left most (state_of first before) (state_of old between) → IsReady old between
    → IfStops {X = Unit {0}} (Err stop) (GoesBy (DoesLine it.what) old new between after) → EndsBy stop result → IfOk result (PlaysTo steps first new before after)
line_stops steps left others it most first old new before between after (stops.Failed failure) (Ok ended) is going leads ready goes told =
    plays_fault steps left others it most first old new before between after failure ended is going leads ready goes told
line_stops steps left others it most first old new before between after (stops.Failed failure) (Err error) is going leads ready goes told = tt
line_stops steps left others it most first old new before between after stops.Memory (Ok ended) is going leads ready goes told = absurd told
line_stops steps left others it most first old new before between after stops.Memory (Err error) is going leads ready goes told = tt

pub end_stops : (steps left : List Step) (most : ℕ) (first old new : Run) (before between after : ℕ → outside.Line) (stop : Stop) (result : Result PairEnd AllocError) → left ≡ [] → LeadsOn steps left most (state_of first before) (state_of old between) → IsReady old between
    → IfStops {X = Unit {0}} (Err stop) (GoesBy (Settles most) old new between after) → EndsBy stop result → IfOk result (PlaysTo steps first new before after)
end_stops steps left most first old new before between after (stops.Failed failure) (Ok ended) none leads ready goes told =
    plays_end_fault steps left most first old new before between after failure ended none leads ready goes told
end_stops steps left most first old new before between after (stops.Failed failure) (Err error) none leads ready goes told = tt
end_stops steps left most first old new before between after stops.Memory (Ok ended) none leads ready goes told = absurd told
end_stops steps left most first old new before between after stops.Memory (Err error) none leads ready goes told = tt

-- the next line of those that are left
pub next_step : (steps : List Step) (at : ℕ) (it : Step) → at < length steps → it ≡ get_or steps at it → drop at steps ≡ it ∷ drop (at + 1) steps
next_step steps at it inside is = drop-cons steps at it inside ∙ ap (λ s. s ∷ drop (suc at) steps) (sym is) ∙ ap (λ n. it ∷ drop n steps) (sym (add-one at))
