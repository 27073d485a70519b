use Rattle.pool_words.specs.Views.{write}
use Rattle.pool_words.proofs.pen.Pen.write.Given as goal

-- the write that is announced
abbrev pub ghosts-announce : goal.ghosts-announce
ghosts-announce a = record { write = write a.word a.value }
