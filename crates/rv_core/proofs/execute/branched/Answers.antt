use Rattle.rv_core.proofs.execute.branched.Goals as goal

pub returns-then-not-is_taken : goal.returns-then-not-is_taken
returns-then-not-is_taken c = λ s at. rw (c.if-not-is_taken.true, at) (c.passed.ensures s)

pub returns-else-target-ne0 : goal.returns-else-target-ne0
returns-else-target-ne0 c = λ s at. rw (c.if-not-is_taken.false, c.if-target-ne0.false)
    (c.passed-else-target-ne0.ensures s)
