-- A link, as contracts see it.
use Rattle.std.specs.Prelude.{ℕ, ℤ, List}
use Rattle.net_flow.specs.Net.{Message as Sent, Packet, End}
use Rattle.net_pipe.specs.declared.link.Message.{Message}
use Rattle.net_pipe.specs.declared.link.Message.TheVariants as message

-- a message, as the net has it
abbrev pub message_view : Message → Sent (List ℤ)
message_view (message.Packet k values) = Packet k values.items
message_view message.End = End

-- its messages, the first one first, and how many it holds at most
pub record LinkView : Type 0 where
  pub messages : List (Sent (List ℤ))
  pub capacity : ℕ
