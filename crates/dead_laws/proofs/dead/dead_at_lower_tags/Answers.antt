use Rattle.dead_laws.proofs.DeadLower.{dead_lower}
use Rattle.dead_laws.proofs.dead.dead_at_lower_tags.Goals as goal

pub returns : goal.returns
returns c = λ instance t u literals valid tag_t tag_u h. dead_lower instance t u literals valid tag_t tag_u h
