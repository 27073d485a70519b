-- The last lines of what the program prints, one for each status. This project's own.
use Rattle.std.specs.Prelude.{ℕ, List, [], ◌∷◌, ◌++◌, codes, decimal}
use Rattle.wp_outside.specs.declared.kinds.Side.{Side}
use Rattle.script_lang.specs.declared.causes.ScriptCause.{ScriptCause}
use Rattle.half_model.specs.declared.causes.PeerCause.{PeerCause}
use Rattle.half_model.specs.declared.causes.Limit.{Limit}
use Rattle.transfer_frames.specs.declared.cause.FrameCause.{FrameCause}
use Rattle.waypipe_run.specs.declared.status.Reader.{Reader}
use Rattle.waypipe_run.specs.Names.{script_name, peer_name, limit_name, side_name, reader_name}
use Rattle.waypipe_run.specs.Names.{frame_name, frame_detail}

unfoldable pub usage_text : List ℕ
usage_text = codes "usage: waypipe replay [--text] [--long] or frames or trial N or session [--workers N] [--link memory or tcp] [--text] [--long]\n"

unfoldable pub read_failed_text : List ℕ
read_failed_text = codes "read failed\n"

unfoldable pub drained_text : List ℕ
drained_text = codes "drained\n"

unfoldable pub stopped_text : List ℕ
stopped_text = codes "stopped\n"

unfoldable pub closed_text : List ℕ
closed_text = codes "closed\n"

unfoldable pub link_failed_text : List ℕ
link_failed_text = codes "link failed\n"

unfoldable pub script_text : ℕ → ScriptCause → List ℕ
script_text line cause =
    codes "script line " ++ (decimal line ++ (codes ": " ++ (script_name cause ++ (10 ∷ []))))

unfoldable pub peer_text : Side → ℕ → PeerCause → List ℕ
peer_text side index cause =
    codes "peer " ++ (side_name side
    ++ (codes " message " ++ (decimal index
    ++ (codes ": " ++ (peer_name cause ++ (10 ∷ []))))))

unfoldable pub limit_text : Limit → List ℕ
limit_text which = codes "limit " ++ (limit_name which ++ (10 ∷ []))

unfoldable pub frame_text : Reader → ℕ → ℕ → FrameCause → List ℕ
frame_text reader connection place cause =
    codes "frame " ++ (reader_name reader
    ++ (codes " connection " ++ (decimal connection
    ++ (codes " place " ++ (decimal place
    ++ (codes ": " ++ (frame_name cause ++ (frame_detail cause ++ (10 ∷ [])))))))))

unfoldable pub rest_text : ℕ → List ℕ
rest_text count = codes "rest " ++ (decimal count ++ (10 ∷ []))
