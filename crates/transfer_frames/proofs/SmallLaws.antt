-- The spelling of a RESTART, with no padding to write.
use Rattle.std.proofs.Common.{◌≡◌, ℕ, ◌+◌, ◌-◌, ◌*◌, List, ◌++◌, length, take, replicate, sym, ap, ◌∙◌, append_assoc}
use Rattle.std.proofs.lemmas.List.{append-nil}
use Rattle.transfer_frames.specs.declared.frame.Frame.TheVariants.{Restart}
use Rattle.transfer_frames.specs.Numbers.{word_bytes, long_bytes}
use Rattle.transfer_frames.specs.Grammar.{spelling, padded}
use Rattle.transfer_frames.proofs.BodyLaws.{restart_length}
use Rattle.transfer_frames.proofs.FrameLaws.{length-spelling}

pub spelling-restart : (token : List ℕ) (connection received : ℕ) → length token ≡ 16
    → spelling (Restart token connection received) ≡ word_bytes 1041 ++ (token ++ (word_bytes connection ++ long_bytes received))
unfolding spelling
spelling-restart token connection received len =
    let text : List ℕ = token ++ (word_bytes connection ++ long_bytes received) in
    let whole : length (token ++ (word_bytes connection ++ long_bytes received)) ≡ 28 = restart_length token connection received len in
    ap (λ (n : ℕ). word_bytes ((4 + n) * 32 + 17) ++ (text ++ replicate (padded (4 + n) - (4 + n)) 0)) whole
    ∙ ap (λ (x : List ℕ). word_bytes 1041 ++ x) (append-nil text)

pub length-restart : (token : List ℕ) (connection received : ℕ) → length token ≡ 16 → length (spelling (Restart token connection received)) ≡ 32
length-restart token connection received len =
    length-spelling (Restart token connection received) ∙ ap (λ (n : ℕ). padded (4 + n)) (restart_length token connection received len)

-- four writes, one behind the other
pub four_writes : (a b c d whole : List ℕ) (first second third : List ℕ) → first ≡ a → second ≡ first ++ b → third ≡ second ++ c → whole ≡ third ++ d → whole ≡ a ++ (b ++ (c ++ d))
four_writes a b c d whole first second third e f g h =
    h ∙ ap (λ (x : List ℕ). x ++ d) (g ∙ ap (λ (x : List ℕ). x ++ c) (f ∙ ap (λ (x : List ℕ). x ++ b) e))
    ∙ append_assoc (a ++ b) c d ∙ append_assoc a b (c ++ d)

-- a write of bytes that are this text, so many
pub step : (after before : List ℕ) (at n : ℕ) (bytes text : List ℕ) → bytes ≡ text → length text ≡ n → take (at + length bytes) after ≡ take at before ++ bytes → take (at + n) after ≡ take at before ++ text
step after before at n bytes text same len write =
    ap (λ (k : ℕ). take (at + k) after) (sym len ∙ ap length (sym same)) ∙ write ∙ ap (λ (x : List ℕ). take at before ++ x) same
