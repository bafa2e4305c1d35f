-- texts of what was sent
mod Shown
-- what a frame leads to
mod Effects
-- what each request leads to
mod Requests
-- what was told up to a moment
mod Told
