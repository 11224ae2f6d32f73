use Rattle.tetra_session.proofs.fields.gather.Goals as goal

pub returns-then-not-push_into-clause-stands : goal.returns-then-not-push_into-clause-stands
returns-then-not-push_into-clause-stands g c = λ words h spread. rw (← c.hear.ensures.values) (c.push_into.ensures.stands words h)

pub returns-else-not-push_into-clause-stands : goal.returns-else-not-push_into-clause-stands
returns-else-not-push_into-clause-stands g c = λ words h spread. rw (← c.hear.ensures.values) (c.push_into.ensures.stands words h)
