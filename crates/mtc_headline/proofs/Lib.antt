mod Sent
mod Recorded
mod Judged
mod Follows
mod Given
mod Borne
mod OneText
