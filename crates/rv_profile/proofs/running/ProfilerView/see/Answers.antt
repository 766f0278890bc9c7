use Rattle.std.proofs.Common.{[], refl}
use Rattle.rv_text.proofs.Saying.{says_nothing}
use Rattle.rv_profile.proofs.Profiling.{profiling_on, room_now}
use Rattle.rv_profile.proofs.running.ProfilerView.see.Goals as goal

pub follow-requires : goal.follow-requires
follow-requires g c = let (start, seen, next, profiling) = c.requires.shown in
    record { room = room_now next profiling c.requires.room }

pub returns-clause-seen : goal.returns-clause-seen
returns-clause-seen g c start seen next profiling =
    profiling_on next profiling c.follow.new.self c.head_of.result c.head_of.ensures c.follow.ensures.costs
    c.follow.ensures.words

pub returns-clause-said : goal.returns-clause-said
returns-clause-said g c start seen next profiling = ([], says_nothing _, refl)
