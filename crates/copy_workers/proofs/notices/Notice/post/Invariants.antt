use Rattle.copy_workers.proofs.notices.Notice.post.Given as goal

-- the jobs that the notice names
abbrev pub ghosts-post_named : goal.ghosts-post_named
ghosts-post_named a = record { jobs = a._jobs.now.put }
