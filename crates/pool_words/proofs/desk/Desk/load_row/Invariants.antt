use Rattle.std.proofs.Common.{◌≡◌, ◌++◌, length, take}
use Rattle.pool_words.specs.Views.{low_of, seen_of, sights}
use Rattle.pool_words.specs.declared.views.View.TheVariants.{Seeing}
use Rattle.pool_words.proofs.desk.Desk.load_row.Given as goal

-- the words before i are loaded
abbrev pub invariant-loop-i : goal.invariant-loop-i
invariant-loop-i l = record {
  loaded : l.self ≡ record l.fn.self { view = Seeing (low_of l.fn.self.view) (seen_of l.fn.self.view ++ sights l.first (take l.i l.out)) };
  same_length : length l.out ≡ length l.fn.out;
}
