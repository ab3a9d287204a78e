use Rattle.std.proofs.Common.{◌≡◌, [], map, replicate}
use Rattle.std.specs.Prelude.{All}
use Rattle.net_pipe.specs.Links.{LinkView}
use Rattle.net_pipe.proofs.begun.first_links.Given as goal

-- the links so far
abbrev pub invariant-links : goal.invariant-links
invariant-links l =
    record {
      links : map (λ (x : LinkView). x.messages) l.links.items ≡ replicate l.counter [];
      capacity : All (λ (x : LinkView). x.capacity ≡ l.stages.capacity) l.links.items;
    }
