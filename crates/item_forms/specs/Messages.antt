-- The messages of items, and the definitions about messages, for whoever checks items.
pub use Rattle.messages.specs.declared.message.Message.{Message}
pub use Rattle.messages.specs.Messages.{IsValidMessage, quote, recv_entry, sent_hash}
