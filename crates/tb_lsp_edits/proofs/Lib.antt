-- what is offered, candidate by candidate
mod Offers
-- texts that are UTF-8, or not
mod Utf8
-- renamed lines make the renamed program
mod Made
-- lines that read otherwise
mod Otherwise
-- texts that are UTF-8, or not
mod ReadableText
