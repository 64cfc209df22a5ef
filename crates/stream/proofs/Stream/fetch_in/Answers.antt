use Rattle.stream.proofs.Stream.fetch_in.Goals as goal

pub fetch_in-requires : goal.fetch_in-requires
fetch_in-requires c = rw c.bytes.ensures.bytes c.requires

pub returns : goal.returns
returns c = λ i e. rw (← c.bytes.ensures.bytes) (c.fetch_in.ensures i e)
